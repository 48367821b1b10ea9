use Rattle.std.proofs.Common.{◌≡◌, ◌++◌, drop, map}
use Rattle.bars.specs.Kinds.{named_space}
use Rattle.model_lines.specs.WhyText.{told_text}
use Rattle.findings.specs.WhyTold.{region_told}
use Rattle.findings_render.specs.WhyLines.{line_text}
use Rattle.findings_render.proofs.why_lines.add_region_lines.Given as goal

abbrev pub invariant-loop-told : goal.invariant-loop-told
invariant-loop-told l =
    map line_text l.lines.items ++ map (told_text (named_space l.space)) (map region_told (drop l.told-index l.all))
    ≡ map line_text l.initial.lines.items ++ map (told_text (named_space l.space)) (map region_told l.all)
