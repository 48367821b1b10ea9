use Rattle.std.proofs.Common.{◌≡◌}
use Rattle.bench_accesses.proofs.row.sum_config_reads.Given as goal

abbrev pub invariant-loop-call : goal.invariant-loop-call
invariant-loop-call l = l.host.state.functions ≡ l.initial.host.state.functions
