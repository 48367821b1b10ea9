use Rattle.std.{proofs.Common.{map, take}, specs.Fmt.{HasWritten, IsPlainFormatter}}
use Rattle.bars.specs.Kinds.{named_space}
use Rattle.model_lines.specs.WhyText.{more_text}
use Rattle.findings.specs.WhyTold.{cause_told}
use Rattle.findings_render.proofs.why_address_lines.ShownCausesDisplay.fmt.Given as goal

abbrev pub invariant-more : goal.invariant-more
invariant-more g l =
    IsPlainFormatter l.initial.f
    → HasWritten g.W.Write.write_str_gives l.initial.f (more_text (named_space l.space) (map cause_told (take l.cause-index l.more))) l.f
