use Rattle.std.proofs.Common.{◌≡◌, ◌++◌, drop, map, string_bytes}
use Rattle.model_guests.specs.Text.{text_of_lines}
use Rattle.model_lines.specs.WhyText.{why_line}
use Rattle.findings_render.specs.WhyLines.{line_text}
use Rattle.findings_render.proofs.why_line.push_lines.Given as goal

abbrev pub invariant-loop-line : goal.invariant-loop-line
invariant-loop-line l =
    string_bytes l.text ++ text_of_lines (map why_line (map line_text (drop l.line-index l.lines)))
    ≡ string_bytes l.fn.text ++ text_of_lines (map why_line (map line_text l.lines))
