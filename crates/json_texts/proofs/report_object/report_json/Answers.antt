use Rattle.std.proofs.Common.{◌++◌, [], ◌∷◌, ap, ◌∙◌, string_bytes, lit<}
use Rattle.serde_json.specs.Written.{has_float, compact_text}
use Rattle.json_texts.proofs.{BoardValue.of_set_up, NoFloatsInReports.none_in_report}
use Rattle.json_texts.proofs.report_object.report_json.Goals as goal

pub returns : goal.returns
returns c =
    let value = c.in_ok-value.ensures in
    let none = ap has_float value ∙ none_in_report c.args.host.now.state.functions (record { functions = c.args.table.now; plan = c.args.plan.now; guests = c.args.guests.now }) in
    let pushed = c.in_ok-push.ensures.bytes ∙ ap (λ t. string_bytes c.in_ok-text.text ++ t) (c.in_ok-push.ensures.ascii (lit< tt)) in
    let found = pushed ∙ ap (λ t. t ++ 10 ∷ []) (c.in_ok-text.ensures.text none ∙ ap compact_text value) in
    record { board = λ w is below. found ∙ of_set_up c.args.host.now.state.functions _ w is below; found = found }
