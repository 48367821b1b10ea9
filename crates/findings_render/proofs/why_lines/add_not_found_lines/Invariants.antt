use Rattle.std.proofs.Common.{◌≡◌, ◌++◌, drop, map}
use Rattle.model_lines.specs.WhyText.{not_found_text}
use Rattle.findings_render.specs.WhyLines.{line_text}
use Rattle.findings_render.proofs.why_lines.add_not_found_lines.Given as goal

abbrev pub invariant-loop-path : goal.invariant-loop-path
invariant-loop-path l =
    map line_text l.lines.items ++ map not_found_text (drop l.path-index l.paths)
    ≡ map line_text l.initial.lines.items ++ map not_found_text l.paths
