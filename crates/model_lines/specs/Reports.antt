-- The reports about a board's registers for which a session can be asked: `audit`, about all problems, and `ready`, about
-- all problems and all that is left to do.
--     Report, report_named w      a report, and the one that a word asks for
--     report_text r a fs      the text of a report about some functions, given these apertures
use Rattle.std.specs.{Prelude.{List, if◌then◌else◌, Option, Some, codes}, Str.bytes_eq}
use Rattle.model_registers.specs.Apertures.{Apertures}
use Rattle.model_board.specs.State.{BoardFunction}
use Rattle.model_guests.specs.{Text.Text, Grammar.on_word}
use Rattle.model_findings.specs.{AuditText.audit, ReadyText.ready_report}

pub data Report : Type 0 where
  of_problems : Report
  of_readiness : Report

abbrev pub report_named : Text → Option Report
report_named w =
    if bytes_eq w (codes "audit") then Some of_problems else on_word w (codes "ready") (Some of_readiness)

abbrev pub report_text : Report → Apertures → List BoardFunction → Text
report_text of_problems a fs = audit fs
report_text of_readiness a fs = ready_report a fs
