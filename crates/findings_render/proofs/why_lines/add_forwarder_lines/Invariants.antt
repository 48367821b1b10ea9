use Rattle.std.proofs.Common.{◌≡◌, ◌++◌, drop, map}
use Rattle.model_lines.specs.WhyText.{forwarder_text}
use Rattle.findings.specs.WhyTold.{forwarder_told}
use Rattle.findings_render.specs.WhyLines.{line_text}
use Rattle.findings_render.proofs.why_lines.add_forwarder_lines.Given as goal

abbrev pub invariant-loop-forwarder : goal.invariant-loop-forwarder
invariant-loop-forwarder l =
    map line_text l.lines.items ++ map forwarder_text (map forwarder_told (drop l.forwarder-index l.all))
    ≡ map line_text l.initial.lines.items ++ map forwarder_text (map forwarder_told l.all)
