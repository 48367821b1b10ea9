use Rattle.std.{proofs.Common.{◌≡◌, length}, specs.Prelude.map}
use Rattle.model_images.specs.LoadedBytes.{after_slots}
use Rattle.monitor.specs.Views.{slot_shown}
use Rattle.monitor.proofs.saved.save.check_bytes_are_slots.Given as goal

-- what is left decides as all does
abbrev pub invariant-loop-slot : goal.invariant-loop-slot
invariant-loop-slot l =
    after_slots (map (slot_shown l.host.state.functions) l.left) l.bytes ≡ after_slots (map (slot_shown l.host.state.functions) l.slots) l.fn.bytes

abbrev pub decreases-loop-slot : goal.decreases-loop-slot
decreases-loop-slot l = length l.left
