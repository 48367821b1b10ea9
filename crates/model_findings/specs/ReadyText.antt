-- The text of a readiness report: a line for each problem and each readiness issue, and a last line that counts problems and
-- readiness issues separately.
--     issue_text      a readiness issue with its witness
--     issues_text n      n readiness issues
--     ready_total m n      how many problems and how many readiness issues there are
--     ready_text ps ls, ready_report a fs      the whole text of some problems and readiness issues, and of a register state
use Rattle.std.specs.Prelude.{List, [], ◌∷◌, ◌++◌, ℕ, ◌==◌, if◌then◌else◌, map, length, codes, decimal}
use Rattle.model_registers.specs.Apertures.{Apertures}
use Rattle.model_board.specs.State.{BoardFunction}
use Rattle.model_guests.specs.{Text.{Text, text_of_lines}, Replies.hex_digits, PathTexts.{hexadecimal, path_text}}
use Rattle.model_findings.specs.{AuditText.{region_text, space_text, problem_text, total_text, audit_line}, Problems.{Problem, problems}, ReadinessIssues.{ReadinessIssue, not_open, outside_apertures, prefetched_by, other_primary, readiness_issues}}

abbrev pub issue_text : ReadinessIssue → Text
issue_text (not_open q) = region_text q ++ codes ": " ++ space_text q.space ++ codes " decode is disabled"
issue_text (outside_apertures q n) = region_text q ++ codes ": " ++ hexadecimal n ++ codes " is outside the apertures"
issue_text (prefetched_by q bridge n) =
    region_text q ++ codes ": bridge " ++ path_text bridge ++ codes " forwards " ++ hexadecimal n
    ++ codes " as prefetchable"
issue_text (other_primary p held number) =
    path_text p ++ codes ": Primary Bus Number is " ++ hex_digits 2 held ++ codes ", but the bridge is on bus "
    ++ hex_digits 2 number

abbrev pub issues_text : ℕ → Text
issues_text n = decimal n ++ codes " left to do"

abbrev pub ready_total : (problems readiness_issues : ℕ) → Text
ready_total m n =
    if n == 0 then total_text m
    else if m == 0 then issues_text n
    else total_text m ++ codes ", " ++ issues_text n

abbrev pub ready_line : Text → Text
ready_line text = codes "ready: " ++ text

abbrev pub ready_text : List Problem → List ReadinessIssue → Text
ready_text ps ls =
    text_of_lines (map (λ p. audit_line (problem_text p)) ps ++ map (λ l. ready_line (issue_text l)) ls
    ++ ready_line (ready_total (length ps) (length ls)) ∷ [])

abbrev pub ready_report : Apertures → List BoardFunction → Text
ready_report a fs = ready_text (problems fs) (readiness_issues a fs)
