use Rattle.std.proofs.Common.{ap, ◌∙◌}
use Rattle.serde_json.specs.Written.{has_float}
use Rattle.model_registers.specs.Decoding.{memory}
use Rattle.paths.specs.BusAddresses.{bus_address_of}
use Rattle.model_lines.specs.{Why.why, Ways.why_number}
use Rattle.json_texts.proofs.NoFloatsInWhy.{none_in_address, none_in_way}
use Rattle.json_texts.proofs.why.host_explanation_json.Goals as goal

pub explanation_json-requires : goal.explanation_json-requires
explanation_json-requires c =
    ap has_float c.in_ok-bdf_explanation_value-in-Config.ensures.value
    ∙ none_in_way (why_number c.args.host.now.state.functions (bus_address_of c.in-Config.bdf))

pub explanation_json-requires-in-Mem : goal.explanation_json-requires-in-Mem
explanation_json-requires-in-Mem c =
    ap has_float c.in_ok-address_explanation_value-in-Mem.ensures
    ∙ none_in_address (why c.args.host.now.state.functions memory c.in-Mem.addr)
