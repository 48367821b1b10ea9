use Rattle.std.{proofs.Common.{◌≡◌, ◌+◌, length}, specs.Prelude.map}
use Rattle.model_images.specs.Stops.{slots_read}
use Rattle.monitor.specs.Views.{slot_shown}
use Rattle.monitor.proofs.saved.mismatch.slots_before_mismatch.Given as goal

-- those that were taken, and of those that are left how many will be
abbrev pub invariant-loop-slot : goal.invariant-loop-slot
invariant-loop-slot l = record {
  number : l.number + length l.left ≡ length l.slots;
  same : l.number + slots_read (map (slot_shown l.host.state.functions) l.left) l.bytes ≡ slots_read (map (slot_shown l.host.state.functions) l.slots) l.fn.bytes;
}

abbrev pub decreases-loop-slot : goal.decreases-loop-slot
decreases-loop-slot l = length l.left
