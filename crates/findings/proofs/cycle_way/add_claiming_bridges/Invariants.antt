use Rattle.std.proofs.Common.{◌≡◌, ◌++◌, drop, [], unwrap_or}
use Rattle.findings.specs.WhyOnWay.{paths_taking}
use Rattle.findings.proofs.cycle_way.add_claiming_bridges.Given as goal

abbrev pub invariant-loop-index : goal.invariant-loop-index
invariant-loop-index l =
    l.told.items ++ paths_taking (unwrap_or l.bus []) l.number (drop l.index l.host.state.functions)
    ≡ l.initial.told.items ++ paths_taking (unwrap_or l.bus []) l.number l.host.state.functions
