use Rattle.std.proofs.Common.{[], unwrap_or}
use Rattle.findings.proofs.BridgesOnWay.{IsOnWay}
use Rattle.findings.proofs.cycle_way.follow_type_1_cycle.Given as goal

abbrev pub invariant-loop-level : goal.invariant-loop-level
invariant-loop-level l = IsOnWay l.host.state.functions l.number l.bridges.items (unwrap_or l.bus []) l._level
