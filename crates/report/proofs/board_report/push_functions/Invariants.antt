use Rattle.std.proofs.Common.{◌≡◌, ◌++◌, drop, length, string_bytes}
use Rattle.model_handoff.specs.FoundReport.{functions_text}
use Rattle.report.proofs.board_report.push_functions.Given as goal

abbrev pub invariant-loop-row : goal.invariant-loop-row
invariant-loop-row l =
    string_bytes l.text ++ functions_text (drop (length l.yielded) l.rows) (drop (length l.yielded) l.settings)
    ≡ string_bytes l.fn.text ++ functions_text l.rows l.settings
