use Rattle.std.proofs.Common.{◌≡◌, ◌++◌, map, drop}
use Rattle.model_findings.specs.ReadinessIssues.{not_open}
use Rattle.findings.specs.Findings.{issue_of}
use Rattle.findings.proofs.readiness.add_disabled_issues.Given as goal

abbrev pub invariant-loop-region : goal.invariant-loop-region
invariant-loop-region l = map issue_of l.told.items ++ map not_open (drop l.region-index l.closed) ≡ map issue_of l.initial.told.items ++ map not_open l.closed
