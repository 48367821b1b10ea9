use Rattle.std.proofs.Common.{◌≡◌, ◌≤◌, ◌+◌, length}
use Rattle.images.specs.Puts.{put}
use Rattle.monitor.specs.ShownImages.{HavePlaces, slots_image}
use Rattle.monitor.proofs.saved.save.put_slots_and_advance.Given as goal

-- what is left finishes what is asked
abbrev pub invariant-loop-slot : goal.invariant-loop-slot
invariant-loop-slot l = record {
  places : HavePlaces l.host.state.functions l.left;
  room : l.next + length (slots_image l.host.state.functions l.left) ≤ length l.out;
  end : l.next + length (slots_image l.host.state.functions l.left) ≡ l.at + length (slots_image l.host.state.functions l.slots);
  bytes : put l.next (slots_image l.host.state.functions l.left) l.out ≡ put l.at (slots_image l.host.state.functions l.slots) l.fn.out;
}

abbrev pub decreases-loop-slot : goal.decreases-loop-slot
decreases-loop-slot l = length l.left
