use Rattle.std.proofs.Common.{◌≡◌, ◌++◌, List, drop}
use Rattle.model_registers.specs.Declarations.{Bridge}
use Rattle.window_packing.specs.{Plans.named_pool, Packs.{IsOver, pool_items, regions_from}}
use Rattle.window_packing.proofs.bus_items.push_regions_in_pool.Given as goal

abbrev pub invariant-registers : goal.invariant-registers
invariant-registers l =
    (ds : List Bridge) → IsOver ds l.above
    → l.into.items ++ pool_items l.apertures ds (named_pool l.pool) l.part (regions_from l.index (drop l.index l.bars)) ≡ l.initial.into.items ++ pool_items l.apertures ds (named_pool l.pool) l.part (regions_from 0 l.bars)
