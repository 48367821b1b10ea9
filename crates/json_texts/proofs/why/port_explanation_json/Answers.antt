use Rattle.std.proofs.Common.{ap, ◌∙◌}
use Rattle.serde_json.specs.Written.{has_float}
use Rattle.model_registers.specs.Decoding.{io}
use Rattle.paths.specs.BusAddresses.{bus_address_of}
use Rattle.model_lines.specs.{Why.why, Ways.why_number}
use Rattle.json_texts.proofs.NoFloatsInWhy.{none_in_address, none_in_way}
use Rattle.json_texts.proofs.why.port_explanation_json.Goals as goal

pub explanation_json-requires : goal.explanation_json-requires
explanation_json-requires c =
    ap has_float c.in_ok-bdf_explanation_value-in-ShowsData.ensures.value
    ∙ none_in_way (why_number c.args.host.now.state.functions (bus_address_of c.in-ShowsData.at))

pub explanation_json-requires-in-HoldsLatch : goal.explanation_json-requires-in-HoldsLatch
explanation_json-requires-in-HoldsLatch c =
    ap has_float c.in_ok-address_explanation_value-in-HoldsLatch.ensures
    ∙ none_in_address (why c.args.host.now.state.functions io c.args.port)
