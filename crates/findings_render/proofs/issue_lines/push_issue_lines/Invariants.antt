use Rattle.std.proofs.Common.{◌≡◌, ◌++◌, drop, string_bytes}
use Rattle.findings_render.specs.Lines.{issue_lines}
use Rattle.findings_render.proofs.issue_lines.push_issue_lines.Given as goal

abbrev pub invariant-loop-issue : goal.invariant-loop-issue
invariant-loop-issue l = string_bytes l.text ++ issue_lines (drop l.issue-index l.readiness_issues) ≡ string_bytes l.fn.text ++ issue_lines l.readiness_issues
