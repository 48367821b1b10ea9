use Rattle.std.proofs.Common.{◌≡◌, ◌∙◌, ◌++◌, [], ◌∷◌, List, Some, slice_get, ap, ap₂, subst}
use Rattle.lists.proofs.Indices.{map_at, read_at}
use Rattle.arrayvec.specs.ArrayString.{ArrayString}
use Rattle.model_board.specs.Paths.{Path}
use Rattle.model_guests.specs.World.{Guest}
use Rattle.monitor.{specs.{Views.texts}, proofs.Anew.one_more}
use Rattle.monitor.proofs.queries.board.guests_with_empty_slots.Goals as goal

pub loop-name-preserved : goal.loop-name-preserved
loop-name-preserved c =
    let i = c.loop-name.name-index in
    let n = c.name-item.result in
    let there = read_at c.as_slice-name-items.result.now i n c.loop-name-test.true c.name-item.is in
    let item = subst (λ (xs : List ArrayString). slice_get xs i ≡ Some n) c.as_slice-name-items.ensures.value there in
    let named = map_at (λ (x : ArrayString). x.bytes) c.args.names.now.items i n item in
    let guest = ap (λ (ps : List Path). let g : Guest = record { name = n.bytes; slots = ps } in g) c.new.ensures in
    c.in_ok-push.ensures.items ∙ ap₂ (λ (gs : List Guest) (g : Guest). gs ++ g ∷ []) c.loop-name.invariant guest ∙ one_more (texts c.args.names.now) i n.bytes named
