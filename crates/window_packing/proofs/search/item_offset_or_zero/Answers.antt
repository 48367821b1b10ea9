use Rattle.std.{proofs.{Common.{◌≡◌, List, length, true, false, sym, ap, ◌∙◌, subst, arith, Some}, lemmas.Option.slice_get_within}, specs.List.slice_get}
use Rattle.model_set_up.specs.Placement.{PlacedItem, is_item}
use Rattle.lists.proofs.Indices.{read_at, same_at}
use Rattle.window_packing.{specs.Searching.IsFirstFrom, proofs.SpotSearch.{none_there, there}}
use Rattle.window_packing.proofs.search.item_offset_or_zero.Goals as goal
use Rattle.window_packing.proofs.search.item_offset_or_zero.Goals.{After-is_same_item, After-len}

-- where the search ended, among the spots of the pack
module _ (c : After-len) where
  same : c.deref.result.now ≡ c.args.pack.now.spots
  same = cc

  first : IsFirstFrom c.args.pack.now.spots c.args.key.now c.first_not_before-at.result
  first = subst (λ (ss : List PlacedItem). IsFirstFrom ss c.args.key.now c.first_not_before-at.result) same c.first_not_before-at.ensures

pub returns-then-at-len : goal.returns-then-at-len
returns-then-at-len c =
    let ss = c.args.pack.now.spots in
    let k = (goal.at.returns-then-at-len c).After-len in
    let past : length ss ≡ c.first_not_before-at.result = omega (arith, ap length (same k), c.deref.ensures.len, c.len.ensures, c.if-at-len.true) in
    sym (none_there ss _ c.requires.order c.requires.align _ (first k) (λ t f. let w = slice_get_within ss c.first_not_before-at.result t f in absurd (omega (arith, w, past))))

-- the spot there
found : (c : After-is_same_item) → slice_get c.args.pack.now.spots c.first_not_before-at.result ≡ Some c.index-spot.result.now
found c = grind (arith, read_at)

pub returns-then-is_same_item : goal.returns-then-is_same_item
returns-then-is_same_item c =
    let k = goal.at.returns-then-is_same_item c in
    let same : is_item c.args.key.now.part c.args.key.now.what c.index-spot.result.now.item ≡ true = cc in
    let here : c.spot.inside.first ≡ c.index-spot.result.now.first = cc in
    here ∙ sym (there _ _ c.requires.order c.requires.align _ (first k.After-len) c.index-spot.result.now (found k.After-is_same_item) same)

pub returns-else-is_same_item : goal.returns-else-is_same_item
returns-else-is_same_item c =
    let key = c.args.key.now in
    let k = goal.at.returns-else-is_same_item c in
    let other : is_item key.part key.what c.index-spot.result.now.item ≡ false = cc in
    sym (none_there _ _ c.requires.order c.requires.align _ (first k.After-len)
    (λ t f. ap (λ (u : PlacedItem). is_item key.part key.what u.item) (same_at c.args.pack.now.spots c.first_not_before-at.result t _ f (found k.After-is_same_item)) ∙ other))
