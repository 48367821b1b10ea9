use Rattle.std.proofs.{Common.{◌++◌, length, map, sym, ap, ◌∙◌, append-nil}, lemmas.Slice.Zip.zip_end}
use Rattle.serde_json.specs.View.{view}
use Rattle.json_texts.proofs.RowValues.{function_values_end}
use Rattle.json_texts.proofs.functions.function_values.Goals as goal

pub returns : goal.returns
returns c =
    let rows = c.args.rows.now in
    let settings = c.args.settings.now in
    let n = length c.loop-row.yielded in
    let used = zip_end rows settings c.loop-row.yielded c.into_iter-row-iterator.result c.loop-row.row-iterator c.next.new.self c.next.result (cc) (cc) c.loop-row.yielded_by c.in-None.is c.next.ensures.steps in
    sym (append-nil (map view c.loop-row.values.items)) ∙ ap (λ xs. map view c.loop-row.values.items ++ xs) (sym (function_values_end c.args.host.now.state.functions n rows settings n used)) ∙ c.loop-row.invariant.1
