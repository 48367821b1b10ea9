use Rattle.std.proofs.Common.{◌≡◌, ◌++◌, drop, string_bytes}
use Rattle.findings_render.specs.Lines.{problem_lines}
use Rattle.findings_render.proofs.problem_lines.push_problem_lines.Given as goal

abbrev pub invariant-loop-problem : goal.invariant-loop-problem
invariant-loop-problem l = string_bytes l.text ++ problem_lines (drop l.problem-index l.problems) ≡ string_bytes l.fn.text ++ problem_lines l.problems
