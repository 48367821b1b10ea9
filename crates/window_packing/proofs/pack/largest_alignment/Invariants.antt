use Rattle.std.proofs.Common.{◌≡◌, ◌≤◌, drop, max}
use Rattle.model_set_up.specs.Placement.{alignment}
use Rattle.window_packing.proofs.pack.largest_alignment.Given as goal

abbrev pub invariant-items : goal.invariant-items
invariant-items l = (l.unit ≤ l.greatest) × (max l.greatest (alignment l.unit (drop l.item-index l.items)) ≡ alignment l.unit l.items)
