use Rattle.std.proofs.Common.{◌≡◌, ◌++◌, drop, map}
use Rattle.model_lines.specs.WhyText.{taker_text}
use Rattle.paths.specs.BusAddresses.{bus_address_of}
use Rattle.findings_render.specs.WhyLines.{line_text}
use Rattle.findings_render.proofs.why_lines.add_claiming_bridge_lines.Given as goal

abbrev pub invariant-loop-bridge : goal.invariant-loop-bridge
invariant-loop-bridge l =
    map line_text l.lines.items ++ map (taker_text (bus_address_of l.at)) (drop l.bridge-index l.bridges)
    ≡ map line_text l.initial.lines.items ++ map (taker_text (bus_address_of l.at)) l.bridges
