use Rattle.std.proofs.Common.{◌≡◌, ◌≤◌, length}
use Rattle.monitor.{specs.{ByIndex.lone_nth, Counts.counts_of, Loads.{AreLoadable, KeepsWorld}}, proofs.LoadedWorlds.SlotsSoFar}
use Rattle.monitor.proofs.saved.load.load_slots.Given as goal

-- the slots so far took their values, and the bytes behind these are left
abbrev pub invariant-loop-slot : goal.invariant-loop-slot
invariant-loop-slot l = record {
  so_far : (k : KeepsWorld l.fn.host l.fn.guests) → AreLoadable (lone_nth k.world l.guest).slots l.bytes → SlotsSoFar k l.slot l.guest l.bytes l.left l.host l.guests;
  count : length l.guests ≡ length l.fn.guests;
  counts : counts_of l.guests ≡ counts_of l.fn.guests;
  low : l.slot ≤ 32;
}
