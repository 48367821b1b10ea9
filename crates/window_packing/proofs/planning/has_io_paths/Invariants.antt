use Rattle.std.{proofs.Common.{◌≡◌, ◌||◌, not, take, true}, specs.List.list_all}
use Rattle.model_set_up.specs.{FunctionTable.board_in, Pools.{bridges_above, opens_io, has_io}}
use Rattle.window_packing.proofs.planning.has_io_paths.Given as goal

abbrev pub invariant-loop-i : goal.invariant-loop-i
invariant-loop-i l = list_all (λ r. not (opens_io r.decl) || list_all (λ d. has_io d.io) (bridges_above (board_in l.rows) r.path)) (take l.i (board_in l.rows)) ≡ true
