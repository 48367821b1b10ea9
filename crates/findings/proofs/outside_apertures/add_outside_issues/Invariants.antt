use Rattle.std.{proofs.Common.{◌≡◌, ◌++◌, map, drop}, specs.Prelude.flat_map}
use Rattle.model_findings.specs.ReadinessIssues.{outside_issue}
use Rattle.findings.specs.Findings.{issue_of}
use Rattle.findings.proofs.outside_apertures.add_outside_issues.Given as goal

abbrev pub invariant-loop-region : goal.invariant-loop-region
invariant-loop-region l = map issue_of l.told.items ++ flat_map (outside_issue l.apertures) (drop l.region-index l.regions) ≡ map issue_of l.initial.told.items ++ flat_map (outside_issue l.apertures) l.regions
