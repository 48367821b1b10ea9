use Rattle.std.{proofs.Common.{◌≡◌, ◌++◌, map, drop}, specs.Prelude.flat_map}
use Rattle.model_findings.specs.Problems.{contention}
use Rattle.findings.specs.Findings.{problem_of}
use Rattle.findings.proofs.contention.add_contentions.Given as goal

abbrev pub invariant-loop-other : goal.invariant-loop-other
invariant-loop-other l = map problem_of l.told.items ++ flat_map (contention l.one) (drop l.other-index l.others) ≡ map problem_of l.initial.told.items ++ flat_map (contention l.one) l.others
