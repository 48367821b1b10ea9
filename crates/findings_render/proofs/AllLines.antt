-- The lines of problems and lacks with the last line.
use Rattle.std.proofs.{Common.{◌≡◌, ◌++◌, List, [], ◌∷◌, ℕ, map, length, ap, ap₂, sym, ◌∙◌, append-nil}, lemmas.List.length-map}
use Rattle.model_guests.{specs.Text.{Text, ended, text_of_lines}, proofs.WrittenLines.text_of_lines-append}
use Rattle.model_findings.specs.{AuditText.{problem_text, audit_line}, ReadyText.{issue_text, ready_total, ready_line, ready_text}}
use Rattle.findings.specs.{Findings.{problem_of, issue_of}, declared.{problem.Problem.Problem, readiness_issue.ReadinessIssue.ReadinessIssue}}
use Rattle.findings_render.specs.Lines.{problem_lines, issue_lines}

abbrev last : ℕ → ℕ → Text
last m n = ready_line (ready_total m n)

pub whole_text : (ps : List Problem) (ls : List ReadinessIssue) (wrong both text : Text) → wrong ≡ problem_lines ps → both ≡ wrong ++ issue_lines ls
    → text ≡ both ++ ended (last (length ps) (length ls)) → text ≡ ready_text (map problem_of ps) (map issue_of ls)
whole_text ps ls wrong both text w b e =
    e ∙ ap (λ x. x ++ ended (last (length ps) (length ls))) started
    ∙ ap₂ (λ m n. text_of_lines (problem_rows ++ issue_rows) ++ ended (last m n)) (sym (length-map ps problem_of)) (sym (length-map ls issue_of))
    ∙ sym (text_of_lines-append (problem_rows ++ issue_rows) (total ∷ []) ∙ ap (λ y. text_of_lines (problem_rows ++ issue_rows) ++ y) (append-nil (ended total)))
  where
    problem_rows : List Text
    problem_rows = map (λ p. audit_line (problem_text p)) (map problem_of ps)

    issue_rows : List Text
    issue_rows = map (λ l. ready_line (issue_text l)) (map issue_of ls)

    total : Text
    total = last (length (map problem_of ps)) (length (map issue_of ls))

    started : both ≡ text_of_lines (problem_rows ++ issue_rows)
    started = b ∙ ap (λ x. x ++ issue_lines ls) w ∙ sym (text_of_lines-append problem_rows issue_rows)
