use Rattle.model_set_up.specs.FunctionTable.{board_in}
use Rattle.window_packing.{specs.Plans.named_pool, proofs.FirstsSoFar.AreFirsts}
use Rattle.window_packing.proofs.pool_placement.bus_start_addresses.Given as goal

abbrev pub invariant-loop-i : goal.invariant-loop-i
invariant-loop-i l = AreFirsts (board_in l.rows) l.apertures (named_pool l.fn.pool) l.i l.firsts.items
