use Rattle.std.proofs.Common.{◌≡◌, map, take}
use Rattle.model_guests.specs.World.{Guest}
use Rattle.monitor.specs.Views.{texts}
use Rattle.monitor.proofs.handover.guest_records.guest_names.Given as goal

abbrev pub invariant-loop-decl : goal.invariant-loop-decl
invariant-loop-decl l = texts l.names ≡ map (λ (g : Guest). g.name) (take l.decl-index l.decls)
