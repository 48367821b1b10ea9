-- What answers a question of the registers of a board.
--     audit_in form ps, ready_in form ps ls      some problems, and also some lacks, in a form
--     report_in r form ps ls, counted_in r ps ls      a report in a form, and how many problems and lacks it counts
--     why_in form s t      why an access of firmware goes where it goes
--     told_by q a fs, counted_by q a fs      the text that answers a question of some functions, by these apertures, and
--         how many problems and readiness issues it counts
use Rattle.std.specs.Prelude.{ℕ, List, ◌+◌, length}
use Rattle.model_registers.specs.Apertures.{Apertures}
use Rattle.model_board.specs.State.{BoardFunction, State}
use Rattle.model_guests.specs.{Grammar.HostTarget, Text.Text}
use Rattle.model_findings.specs.{AuditText.audit_text, Problems.{Problem, problems}, ReadinessIssues.{ReadinessIssue, readiness_issues}, ReadyText.ready_text}
use Rattle.model_lines.specs.Requests.{why_written}
use Rattle.json_texts.specs.{AuditValue.{problems_json, readiness_json}, WhyValue.host_explanation_json}
use Rattle.lines.specs.declared.requests.Report.{Report, TheVariants.{Audit, Ready}}
use Rattle.session.specs.declared.questions.{ReportForm.{ReportForm, TheVariants.{Lines, Json}}, Question.{Question}}

abbrev pub audit_in : ReportForm → List Problem → Text
audit_in Lines ps = audit_text ps
audit_in Json ps = problems_json ps

abbrev pub ready_in : ReportForm → List Problem → List ReadinessIssue → Text
ready_in Lines ps ls = ready_text ps ls
ready_in Json ps ls = readiness_json ps ls

abbrev pub why_in : ReportForm → State → HostTarget → Text
why_in Lines s t = why_written s t
why_in Json s t = host_explanation_json s t

abbrev pub report_in : Report → ReportForm → List Problem → List ReadinessIssue → Text
report_in Audit form ps ls = audit_in form ps
report_in Ready form ps ls = ready_in form ps ls

abbrev pub counted_in : Report → List Problem → List ReadinessIssue → ℕ
counted_in Audit ps ls = length ps
counted_in Ready ps ls = length ps + length ls

abbrev pub told_by : Question → Apertures → List BoardFunction → Text
told_by q a fs = report_in q.report q.form (problems fs) (readiness_issues a fs)

abbrev pub counted_by : Question → Apertures → List BoardFunction → ℕ
counted_by q a fs = counted_in q.report (problems fs) (readiness_issues a fs)
