use Rattle.std.proofs.Common.{take}
use Rattle.monitor.{specs.Beginnings.world_on, proofs.FirstGuests.AreFirst}
use Rattle.monitor.proofs.handover.guest_records.build_guests.Given as goal

abbrev pub invariant-loop-decl : goal.invariant-loop-decl
invariant-loop-decl l = AreFirst l.host.state (world_on l.host l.decls) (take l.decl-index l.decls) l.guests.items
