use Rattle.std.proofs.Common.{◌≡◌, ◌++◌, map, drop}
use Rattle.findings.specs.{BridgeViolations.unforwarded_problem, Findings.problem_of}
use Rattle.findings.proofs.forwarding.add_not_forwarded_problems.Given as goal

abbrev pub invariant-loop-blame : goal.invariant-loop-blame
invariant-loop-blame l = map problem_of l.told.items ++ map unforwarded_problem (drop l.blame-index l.blames) ≡ map problem_of l.initial.told.items ++ map unforwarded_problem l.blames
