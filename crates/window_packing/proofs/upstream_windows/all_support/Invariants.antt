use Rattle.model_set_up.specs.FunctionTable.{board_in}
use Rattle.window_packing.proofs.AboveRows.{Followed}
use Rattle.window_packing.proofs.upstream_windows.all_support.Given as goal

abbrev pub invariant-loop-i : goal.invariant-loop-i
invariant-loop-i l = Followed (board_in l.rows) l.i l.list.items l.buses
