use Rattle.std.proofs.Common.{◌≡◌, ◌++◌, drop, string_bytes}
use Rattle.board_told.specs.GuestLines.{told_lines}
use Rattle.board_told.proofs.finding_lines.push_disabled_bar_lines.Given as goal

abbrev pub invariant-loop-closed : goal.invariant-loop-closed
invariant-loop-closed l = string_bytes l.text ++ told_lines (drop l.closed-index l.all) ≡ string_bytes l.fn.text ++ told_lines l.all
