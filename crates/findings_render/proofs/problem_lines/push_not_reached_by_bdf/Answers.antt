use Rattle.std.{proofs.{Common.{◌++◌, ap, codes, string_bytes}, lemmas.Result.IfOk-equal}, specs.Option.option_map_or}
use Rattle.model_guests.specs.{PathTexts.path_text, Text.Text}
use Rattle.model_findings.specs.AuditText.{number_text}
use Rattle.paths.specs.BusAddresses.{bus_address_of}
use Rattle.findings_render.proofs.Chains.{right_to_left}
use Rattle.findings_render.proofs.problem_lines.push_not_reached_by_bdf.Goals as goal

pub returns : goal.returns
returns c =
    IfOk-equal c.write.result _ _ _ c.write.ensures.bytes (ap (λ (x : Text). string_bytes c.args.text.now ++ x)
    (right_to_left (path_text c.args.path.now) (codes ": a configuration cycle to ") (number_text (bus_address_of c.args.at)) (codes " reaches ") (option_map_or path_text c.args.instead.now (codes "nothing"))))
