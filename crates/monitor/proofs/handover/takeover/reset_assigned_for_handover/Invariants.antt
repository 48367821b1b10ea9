use Rattle.std.{proofs.Common.{◌≡◌, take}, specs.Prelude.flat_map}
use Rattle.model_guests.specs.World.{Guest}
use Rattle.monitor.proofs.TakenOver.{reset_on}
use Rattle.monitor.proofs.handover.takeover.reset_assigned_for_handover.Given as goal

abbrev pub invariant-loop-decl : goal.invariant-loop-decl
invariant-loop-decl l = l.host ≡ reset_on l.initial.host (flat_map (λ (g : Guest). g.slots) (take l.decl-index l.decls))
