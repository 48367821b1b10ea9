use Rattle.std.{proofs.Common.{◌≡◌, ◌++◌, map, drop}, specs.Prelude.flat_map}
use Rattle.model_findings.specs.ReadinessIssues.{primary_bus_issue}
use Rattle.findings.specs.Findings.{issue_of}
use Rattle.findings.proofs.primaries.add_primary_bus_issues.Given as goal

abbrev pub invariant-loop-index : goal.invariant-loop-index
invariant-loop-index l =
    map issue_of l.told.items ++ flat_map (primary_bus_issue l.host.state.functions) (drop l.index l.host.state.functions)
    ≡ map issue_of l.initial.told.items ++ flat_map (primary_bus_issue l.host.state.functions) l.host.state.functions
