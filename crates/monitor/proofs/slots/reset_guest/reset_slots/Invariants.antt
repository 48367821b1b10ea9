use Rattle.std.proofs.Common.{◌≡◌, ◌≤◌, List}
use Rattle.model_guests.specs.{Text.Text, WorldNow.WorldNow}
use Rattle.monitor.{specs.{Counts.counts_of, Keeping.IsKept, Moves.HasSlot}, proofs.RestartSteps.slots_restarted}
use Rattle.monitor.proofs.slots.reset_guest.reset_slots.Given as goal

-- the slots so far are at reset
abbrev pub invariant-loop-slot : goal.invariant-loop-slot
invariant-loop-slot l = record {
  kept : (w : WorldNow) (names : List Text) → IsKept w l.fn.host names l.fn.guests → IsKept (slots_restarted l.slot l.guest w) l.host names l.guests;
  has : HasSlot l.guests l.guest 31;
  counts : counts_of l.guests ≡ counts_of l.fn.guests;
  low : l.slot ≤ 32;
}
