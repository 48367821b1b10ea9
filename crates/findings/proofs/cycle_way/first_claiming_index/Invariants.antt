use Rattle.std.{proofs.Common.{◌≡◌, drop, [], unwrap_or}, specs.Prelude.find}
use Rattle.findings.specs.WhyOnWay.{is_taker}
use Rattle.findings.proofs.cycle_way.first_claiming_index.Given as goal

abbrev pub invariant-loop-index : goal.invariant-loop-index
invariant-loop-index l = find (is_taker (unwrap_or l.bus []) l.number) (drop l.index l.host.state.functions) ≡ find (is_taker (unwrap_or l.bus []) l.number) l.host.state.functions
