use Rattle.std.proofs.Common.{◌≡◌}
use Rattle.bench_accesses.proofs.row.sum_memory_reads.Given as goal

abbrev pub invariant-loop-call : goal.invariant-loop-call
invariant-loop-call g l = l.host ≡ l.initial.host
