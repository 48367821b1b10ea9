-- The lines of lists of problems and readiness issues, in the code's types.
use Rattle.std.specs.Prelude.{List, map}
use Rattle.model_guests.specs.Text.{Text, text_of_lines}
use Rattle.model_findings.specs.{AuditText.{problem_text, audit_line}, ReadyText.{issue_text, ready_line}}
use Rattle.findings.specs.{Findings.{problem_of, issue_of}, declared.{problem.Problem.Problem, readiness_issue.ReadinessIssue.ReadinessIssue}}

abbrev pub problem_lines : List Problem → Text
problem_lines ps = text_of_lines (map (λ p. audit_line (problem_text p)) (map problem_of ps))

abbrev pub issue_lines : List ReadinessIssue → Text
issue_lines ls = text_of_lines (map (λ l. ready_line (issue_text l)) (map issue_of ls))
