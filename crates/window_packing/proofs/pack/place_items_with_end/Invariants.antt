use Rattle.std.proofs.Common.{◌≡◌, ◌≤◌, ◌^◌, ◌++◌, drop}
use Rattle.model_set_up.specs.Placement.{spots_from, end_from}
use Rattle.window_packing.proofs.pack.place_items_with_end.Given as goal

abbrev pub invariant-items : goal.invariant-items
invariant-items l =
    (l.at ≤ 2 ^ 63)
    × (l.spots.items ++ spots_from l.at (drop l.item-index l.items) ≡ spots_from 0 l.items)
    × (end_from l.at (drop l.item-index l.items) ≡ end_from 0 l.items)
