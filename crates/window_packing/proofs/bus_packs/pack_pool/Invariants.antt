use Rattle.model_set_up.specs.FunctionTable.{board_in}
use Rattle.window_packing.{specs.Plans.named_pool, proofs.Gathering.IsGathered}
use Rattle.window_packing.proofs.bus_packs.pack_pool.Given as goal

abbrev pub invariant-rows : goal.invariant-rows
invariant-rows l = IsGathered (board_in l.rows) l.apertures (named_pool l.pool) (λ v. v.items) l.i l.items.items l.packs.items
