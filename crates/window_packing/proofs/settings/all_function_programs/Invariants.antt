use Rattle.std.proofs.Common.{◌≡◌, take}
use Rattle.model_set_up.specs.{FunctionTable.board_in, SetUpWrites.settings}
use Rattle.window_packing.proofs.settings.all_function_programs.Given as goal

abbrev pub invariant-loop-i : goal.invariant-loop-i
invariant-loop-i l = l.list.items ≡ take l.i (settings (board_in l.rows) l.apertures)
