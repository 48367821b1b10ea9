use Rattle.std.proofs.Common.{◌≡◌, ◌++◌, map, drop}
use Rattle.findings.specs.{BridgeViolations.prefetched_issue, Findings.issue_of}
use Rattle.findings.proofs.prefetching.add_prefetched_issues.Given as goal

abbrev pub invariant-loop-blame : goal.invariant-loop-blame
invariant-loop-blame l = map issue_of l.told.items ++ map prefetched_issue (drop l.blame-index l.blames) ≡ map issue_of l.initial.told.items ++ map prefetched_issue l.blames
