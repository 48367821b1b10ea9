use Rattle.std.{proofs.{Common.{◌≡◌, ◌+◌, ◌-◌, ◌<◌, ◌≤◌, ◌^◌, length, false, Some, List, [], ◌∷◌, get_or, ◌++◌, sym, ap, ◌∙◌, subst, arith, rules}, lemmas.Option.slice_get-get_or}, specs.{Prelude.{reverse, slice_get}, List.Sorted.IsPermutation}}
use Rattle.window_packing.{proofs.{AboveRows.length_board, BusIndex.row_in, BusIndices.bus_before, PoolEnds.too_large, BusItems.{packable, pack_is, own_is}, Gathering.{IsGathered, none_gathered, last_gathered, more_gathered}, PoolSteps.{IsAboveRow, above_count, above_row, taken, root_is, all_packed, all_bounded}}, specs.{Plans.named_pool, declared.upstream_windows.UpstreamSupport.UpstreamSupport, Packs.{PackedBus, IsBounded, pack_items, pack_of, own_items}}}
use Rattle.lists.{specs.Elements.Each, proofs.Indices.{at_below, read_at, map_at}}
use Rattle.model_set_up.specs.{FunctionTable.board_in, Pools.{Pool, bridges_above}, Placement.{PlacementItem, items_on}}
use Rattle.model_board.specs.Board.{Row, Board}
use Rattle.window_packing.proofs.bus_packs.pack_pool.Goals as goal
use Rattle.window_packing.proofs.bus_packs.pack_pool.Goals.{After-unwrap-behind, After-unwrap-root}

pub rows-init : goal.rows-init
rows-init c =
    let count = length_board c.args.rows.now in
    rw (c.new-packs.ensures.items, ← count)
    (none_gathered (board_in c.args.rows.now) c.args.apertures.now (named_pool c.args.pool) c.requires.board (λ v. v.items) c.in_ok-items.items.items
    (rw count c.in_ok-items.ensures.buses) c.in_ok-items.ensures.none)

-- a bus is taken from those that are left
module _ (c : After-unwrap-behind) where
  abbrev b : Board
  b = board_in c.args.rows.now

  abbrev pool : Pool
  pool = named_pool c.args.pool

  abbrev told : UpstreamSupport
  told = get_or c.args.above.now (c.rows.i - 1) (record { bus = 0; io = false; pref = false; pref64 = false })

  left : IsGathered b c.args.apertures.now pool (λ v. v.items) (c.rows.i - 1 + 1) (c.pop.new.self.items ++ c.unwrap-behind.result ∷ []) c.rows.packs.items
      × (length c.pop.new.self.items ≡ c.rows.i - 1 + 1)
  left = taken b c.args.apertures.now pool c.requires.board _ c.rows.i _ _ _ _ _ c.rows-test.true c.rows.invariant c.pop.ensures.items c.unwrap-behind.ensures

  row : (r : Row) × (slice_get b (c.rows.i - 1) ≡ Some r)
  row = at_below b (c.rows.i - 1) (omega (arith, length_board c.args.rows.now))

  module _ (r : Row) (at : slice_get b (c.rows.i - 1) ≡ Some r) where
    all : IsPermutation (items_on b c.args.apertures.now pool r.path) c.unwrap-behind.result.items
    all = last_gathered b c.args.apertures.now pool c.requires.board _ (c.rows.i - 1) r _ _ _ at left.0 left.1

    above : IsAboveRow b r told
    above =
        above_row b c.args.above.now (c.rows.i - 1) r told c.requires.above at
        (slice_get-get_or c.args.above.now (c.rows.i - 1) _ (omega (arith, length_board c.args.rows.now, above_count b c.args.above.now c.requires.above)))

    own_left : told.bus < length c.pop.new.self.items
    own_left = let up = above in omega (arith, left.1, bus_before b c.requires.board (c.rows.i - 1) r told.bus at up.bus up.within)

pub pack_bus-requires : goal.pack_bus-requires
pack_bus-requires c = let r = row c in packable (b c) c.args.apertures.now (pool c) c.requires.declarations c.requires.board _ _ (all c r.0 r.1)

pub returns-in_default : goal.returns-in_default
returns-in_default c =
    let k = (goal.at.returns-in_default c).After-unwrap-behind in
    let r = row k in
    let end = rw c.in_default.is at c.in_ok-pack.ensures.packed in
    let no = too_large (b k) c.args.apertures.now (pool k) c.requires.board c.requires.declarations c.requires.apertures _ _ (all k r.0 r.1) end in
    record { packed = no.0; large = λ none. no.1; bounded = search rules }

pub index_mut-own-requires : goal.index_mut-own-requires
index_mut-own-requires c =
    let k = (goal.at.index_mut-own-requires c).After-unwrap-behind in
    let r = row k in
    omega (arith, own_left k r.0 r.1, c.pop.new.self.ok)

pub rows-preserved : goal.rows-preserved
rows-preserved c =
    let k = (goal.at.rows-preserved c).After-unwrap-behind in
    let a = c.args.apertures.now in
    let row = c.index-rows-i.result in
    let own = c.index_mut-own.result.now in
    let at = map_at row_in c.args.rows.now (c.rows.i - 1) row (read_at c.args.rows.now (c.rows.i - 1) row (omega arith) c.index-rows-i.is) in
    let up = above k (row_in row) at in
    let packed : c.in-Some.pack ≡ pack_items c.unit-unit.result c.unwrap-behind.result.items = rw c.in-Some.is at c.in_ok-pack.ensures.packed in
    let is : c.in-Some.pack ≡ pack_of (b k) a (pool k) row.path =
    packed ∙ ap (λ n. pack_items n c.unwrap-behind.result.items) c.unit-unit.ensures ∙ pack_is (b k) a (pool k) c.requires.declarations c.requires.board _ _ (all k (row_in row) at) in
    let within : c.in-Some.pack.end ≤ 2 ^ 63 = rw c.in-Some.is at c.in_ok-pack.ensures.within in
    let ds = bridges_above (b k) row.path in
    let pushed : c.push_function_items.new.into.items ≡ own.items ++ own_items a ds (pool k) row.path row.decl c.in-Some.pack = c.in_ok-push_function_items.ensures ds up.over in
    let added = pushed ∙ ap (λ (p : PackedBus). own.items ++ own_items a ds (pool k) row.path row.decl p) is ∙ ap (λ (is : List PlacementItem). own.items ++ is) (own_is (b k) a (pool k) row.path row.decl) in
    let here = read_at c.pop.new.self.items (told k).bus own (own_left k (row_in row) at) c.index_mut-own.ensures.value in
    rw c.in_ok-push.ensures.items
    (more_gathered (b k) a (pool k) c.requires.board _ (c.rows.i - 1) (row_in row) _ _ _ _ _ own c.push_function_items.new.into at (left k).0 (left k).1 is within up.bus up.within
    here added)

-- bus 0 alone is left
root : (c : After-unwrap-root) → IsPermutation (items_on (board_in c.args.rows.now) c.args.apertures.now (named_pool c.args.pool) []) c.unwrap-root.result.items
root c = root_is _ _ _ c.requires.board _ c.rows.i _ _ _ _ _ c.rows-test.false c.rows.invariant c.pop-2.ensures.items c.unwrap-root.ensures

pub pack_bus-requires-2 : goal.pack_bus-requires-2
pack_bus-requires-2 c = packable (board_in c.args.rows.now) c.args.apertures.now (named_pool c.args.pool) c.requires.declarations c.requires.board _ _ (root c)

pub returns-in_default-2 : goal.returns-in_default-2
returns-in_default-2 c =
    let all = root (goal.at.returns-in_default-2 c).After-unwrap-root in
    let end = rw c.in_default-2.is at c.in_ok-pack-2.ensures.packed in
    let no = too_large (board_in c.args.rows.now) c.args.apertures.now (named_pool c.args.pool) c.requires.board c.requires.declarations c.requires.apertures _ _ all end in
    record { packed = no.0; large = λ none. no.1; bounded = search rules }

pub returns : goal.returns
returns c =
    let packed = rw (c.in-Some-2.is, c.unit-unit.ensures) at c.in_ok-pack-2.ensures.packed in
    let within = rw c.in-Some-2.is at c.in_ok-pack-2.ensures.within in
    let all = root (goal.at.returns c).After-unwrap-root in
    let is = packed ∙ pack_is (board_in c.args.rows.now) c.args.apertures.now (named_pool c.args.pool) c.requires.declarations c.requires.board _ _ all in
    let turned = c.reverse.ensures.items ∙ ap reverse c.in_ok-push-2.ensures.items in
    record {
      packed = turned ∙ all_packed _ _ _ c.requires.board _ c.rows.i _ _ _ c.rows-test.false c.rows.invariant is;
      large = search rules;
      bounded = subst (λ (x : List PackedBus). Each IsBounded x) (sym turned)
          (all_bounded _ _ _ c.requires.board _ c.requires.declarations c.rows.i _ _ _ c.rows-test.false c.rows.invariant is within);
    }
