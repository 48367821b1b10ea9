use Rattle.std.proofs.Common.{◌≡◌, ◌++◌, map, length}
use Rattle.model_findings.specs.Problems.{contentions}
use Rattle.findings.specs.Findings.{problem_of}
use Rattle.findings.proofs.contention.add_all_contentions.Given as goal

abbrev pub invariant-loop-one : goal.invariant-loop-one
invariant-loop-one l = map problem_of l.told.items ++ contentions l.left ≡ map problem_of l.fn.told.items ++ contentions l.agents

abbrev pub decreases-loop-one : goal.decreases-loop-one
decreases-loop-one l = length l.left
