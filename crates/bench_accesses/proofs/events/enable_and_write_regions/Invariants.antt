use Rattle.std.proofs.Common.{◌≡◌, length}
use Rattle.bench_accesses.proofs.events.enable_and_write_regions.Given as goal

abbrev pub invariant-loop-slot : goal.invariant-loop-slot
invariant-loop-slot l = length l.monitor.world.guests ≡ length l.initial.monitor.world.guests

abbrev pub invariant-loop-word : goal.invariant-loop-word
invariant-loop-word l = length l.monitor.world.guests ≡ length l.initial.monitor.world.guests
