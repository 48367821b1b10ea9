use Rattle.std.proofs.Common.{◌-◌, length, take}
use Rattle.monitor.proofs.FirstGuests.{AreSlotsWith}
use Rattle.monitor.proofs.handover.guest_records.build_slots.Given as goal

abbrev pub invariant-loop-path : goal.invariant-loop-path
invariant-loop-path l = AreSlotsWith l.host (take l.path-index l.paths) 0 l.slots.items

abbrev pub invariant-loop-empty : goal.invariant-loop-empty
invariant-loop-empty l = AreSlotsWith l.host l.paths (l._empty - length l.paths) l.slots.items
