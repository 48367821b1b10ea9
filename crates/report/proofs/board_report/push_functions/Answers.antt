use Rattle.std.proofs.{Common.{◌++◌, length, string_bytes, sym, ap, ◌∙◌, append-nil}, lemmas.Slice.Zip.zip_end}
use Rattle.report.proofs.RowTexts.{functions_text_end}
use Rattle.report.proofs.board_report.push_functions.Goals as goal

pub returns : goal.returns
returns c =
    let rows = c.args.rows.now in
    let settings = c.args.settings.now in
    let n = length c.loop-row.yielded in
    let used = zip_end rows settings c.loop-row.yielded c.into_iter-row-iterator.result c.loop-row.row-iterator c.next.new.self c.next.result (cc) (cc) c.loop-row.yielded_by c.in-None.is c.next.ensures.steps in
    sym (append-nil (string_bytes c.loop-row.text)) ∙ ap (λ t. string_bytes c.loop-row.text ++ t) (sym (functions_text_end rows settings n used)) ∙ c.loop-row.invariant
