use Rattle.std.proofs.Common.{◌≡◌, ◌++◌, drop, string_bytes}
use Rattle.model_handoff.specs.FoundReport.{guests_text}
use Rattle.report.proofs.board_report.push_guests.Given as goal

abbrev pub invariant-loop-guest : goal.invariant-loop-guest
invariant-loop-guest l =
    string_bytes l.text ++ guests_text (drop l.guest-index l.guests) ≡ string_bytes l.fn.text ++ guests_text l.guests
