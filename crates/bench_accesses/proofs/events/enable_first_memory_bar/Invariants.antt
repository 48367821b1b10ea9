use Rattle.std.proofs.Common.{◌≡◌, length}
use Rattle.bench_accesses.proofs.events.enable_first_memory_bar.Given as goal

abbrev pub invariant-loop-register : goal.invariant-loop-register
invariant-loop-register l = length l.monitor.world.guests ≡ length l.initial.monitor.world.guests
