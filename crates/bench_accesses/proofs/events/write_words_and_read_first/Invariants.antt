use Rattle.std.proofs.Common.{◌≡◌, length}
use Rattle.bench_accesses.proofs.events.write_words_and_read_first.Given as goal

abbrev pub invariant-loop-call : goal.invariant-loop-call
invariant-loop-call l = length l.monitor.world.guests ≡ length l.initial.monitor.world.guests
