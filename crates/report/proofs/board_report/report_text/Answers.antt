use Rattle.std.proofs.Common.{◌++◌, ap, ap₂, ◌∙◌}
use Rattle.model_guests.specs.Text.{ended}
use Rattle.model_handoff.specs.FoundReport.{count_line, functions_text, guests_text}
use Rattle.report.proofs.Boards.{of_set_up, in_parts}
use Rattle.report.proofs.board_report.report_text.Goals as goal

pub returns : goal.returns
returns c =
    let parts = in_parts _ _ _ _ _ _ _ c.new-text.ensures.bytes c.in_ok-push_function_counts.ensures c.in_ok-push_functions.ensures c.in_ok-push_guests.ensures in
    let guests = guests_text c.args.guests.now in
    let counts = ap (λ rs. ended (count_line rs) ++ functions_text c.rows-2.result.now c.settings.result.now ++ guests) c.rows.ensures in
    let functions = ap₂ (λ rs ss. ended (count_line c.args.table.now) ++ functions_text rs ss ++ guests) c.rows-2.ensures c.settings.ensures in
    let found = parts ∙ counts ∙ functions in
    record { board = λ w is. found ∙ of_set_up _ w is; found = found }
