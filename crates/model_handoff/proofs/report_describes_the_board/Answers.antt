use Rattle.model_handoff.proofs.{BoardReport.report_of_board, ReportLaws.{closed_without_items, counts_of_board, identities_of_board, pin_lines}}
use Rattle.model_handoff.proofs.report_describes_the_board.Goals as goal

pub returns : goal.returns
returns c = record { report = report_of_board; counts = counts_of_board; identities = identities_of_board; windows = closed_without_items; pins = pin_lines }
