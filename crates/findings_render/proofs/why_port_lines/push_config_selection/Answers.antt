use Rattle.std.proofs.{Common.{◌++◌, ◌∙◌, ℕ, ap, codes, string_bytes}, lemmas.Result.IfOk-equal}
use Rattle.model_guests.specs.{PathTexts.hexadecimal, Text.Text}
use Rattle.model_findings.specs.AuditText.{number_text}
use Rattle.model_lines.specs.WhyPorts.{port_text, latch_text}
use Rattle.paths.specs.BusAddresses.{bus_address_of}
use Rattle.findings_render.proofs.Chains.{six_right_to_left}
use Rattle.findings_render.proofs.why_port_lines.push_config_selection.Goals as goal

pub returns : goal.returns
returns c =
    let old = string_bytes c.args.text.now in
    let front = port_text c.args.port.0 ++ latch_text c.args.latch.0 ++ codes " selects offset " in
    let number = number_text (bus_address_of c.args.at) in
    IfOk-equal c.write.result _ _ _ c.write.ensures.bytes
    (ap (λ (x : Text). old ++ x) (six_right_to_left (port_text c.args.port.0) (latch_text c.args.latch.0) (codes " selects offset ") (hexadecimal c.from.result) (codes " of ") number)
    ∙ ap (λ (n : ℕ). old ++ (front ++ hexadecimal n ++ codes " of " ++ number)) c.from.ensures)
