use Rattle.std.proofs.Common.{◌≡◌, ◌++◌, drop, map, string_bytes}
use Rattle.model_guests.specs.Text.{text_of_lines}
use Rattle.bars.specs.Slots.{bases_from}
use Rattle.model_handoff.specs.Report.{base_line}
use Rattle.report.proofs.lines.push_regions.Given as goal

abbrev pub invariant-loop-index : goal.invariant-loop-index
invariant-loop-index l =
    string_bytes l.text ++ text_of_lines (map base_line (bases_from l.index (drop l.index l.bases)))
    ≡ string_bytes l.fn.text ++ text_of_lines (map base_line (bases_from 0 l.bases))
