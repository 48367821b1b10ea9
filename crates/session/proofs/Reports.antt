-- A report as lines is what a line of a session writes.
use Rattle.std.proofs.Common.{◌≡◌, List, arith}
use Rattle.model_registers.specs.Apertures.{Apertures}
use Rattle.model_board.specs.State.{BoardFunction}
use Rattle.model_lines.specs.Reports.{report_text}
use Rattle.lines.specs.{Requests.report_of, declared.requests.Report.Report}
use Rattle.session.specs.{Questions.told_by, declared.questions.ReportForm.TheVariants.Lines}

pub told_in_lines : (r : Report) (a : Apertures) (fs : List BoardFunction)
    → told_by (record { report = r; form = Lines }) a fs ≡ report_text (report_of r) a fs
told_in_lines r a fs = grind arith
