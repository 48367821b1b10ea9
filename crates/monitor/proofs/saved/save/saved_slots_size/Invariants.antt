use Rattle.std.proofs.Common.{◌≡◌, ◌+◌, ◌*◌, ◌≤◌, length}
use Rattle.model_images.specs.ImageBytes.{greatest_function}
use Rattle.monitor.specs.ShownImages.{HavePlaces, slots_image}
use Rattle.monitor.proofs.saved.save.saved_slots_size.Given as goal

abbrev pub invariant-loop-slot : goal.invariant-loop-slot
invariant-loop-slot l = record {
  places : HavePlaces l.host.state.functions l.left;
  all : l.size + length (slots_image l.host.state.functions l.left) ≡ length (slots_image l.host.state.functions l.slots);
  bound : l.size + (1 + greatest_function) * length l.left ≤ 32 * (1 + greatest_function);
}

abbrev pub decreases-loop-slot : goal.decreases-loop-slot
decreases-loop-slot l = length l.left
