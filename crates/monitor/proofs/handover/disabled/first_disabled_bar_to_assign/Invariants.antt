use Rattle.std.{proofs.Common.{◌≡◌, drop}, specs.Prelude.flat_map}
use Rattle.model_guests.specs.World.{Guest}
use Rattle.monitor.specs.Handovers.{first_closed_at}
use Rattle.monitor.proofs.handover.disabled.first_disabled_bar_to_assign.Given as goal

abbrev pub invariant-loop-row : goal.invariant-loop-row
invariant-loop-row l = first_closed_at (flat_map (λ (g : Guest). g.slots) l.decls) (drop l.row-index l.rows) ≡ first_closed_at (flat_map (λ (g : Guest). g.slots) l.decls) l.rows
