use Rattle.std.proofs.Common.{◌≡◌, ◌++◌, drop, string_bytes}
use Rattle.model_guests.specs.Text.{text_of_lines}
use Rattle.model_handoff.specs.Report.{slot_lines}
use Rattle.report.proofs.lines.push_slots_of_guest.Given as goal

abbrev pub invariant-loop-slot : goal.invariant-loop-slot
invariant-loop-slot l =
    string_bytes l.text ++ text_of_lines (slot_lines l.name l.slot (drop l.slot l.path-items))
    ≡ string_bytes l.fn.text ++ text_of_lines (slot_lines l.name 0 l.path-items)
