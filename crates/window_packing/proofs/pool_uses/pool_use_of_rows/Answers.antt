use Rattle.std.proofs.{Common.{◌≡◌, List, [], get_or, Some, arith}, lemmas.Bool.le-leb}
use Rattle.lists.specs.Elements.{Each}
use Rattle.model_board.specs.Board.{Board}
use Rattle.model_registers.specs.Apertures.{Apertures}
use Rattle.model_set_up.specs.{Pools.Pool, FunctionTable.board_in}
use Rattle.window_packing.specs.{declared.pool_uses.PoolUse.PoolUse, Packs.{PackedBus, IsBounded, pack_of, packs_of}, Plans.named_pool, Uses.{pool_use, told_use}}
use Rattle.window_packing.proofs.pool_uses.pool_use_of_rows.Goals as goal

-- the first of the packs is that of bus 0
told_first : (b : Board) (a : Apertures) (pool : Pool) (packs : List PackedBus) (root : PackedBus) (u : PoolUse) → packs ≡ packs_of b a pool → Each IsBounded packs
    → root ≡ get_or packs 0 root → (root ≡ pack_of b a pool [] → u ≡ pool_use b a pool) → Some u ≡ told_use b a pool
told_first b a pool packs root u are bounded at told = grind (arith, le-leb)

pub returns-in-Some : goal.returns-in-Some
returns-in-Some c =
    let b = board_in c.args.rows.now in
    told_first b c.args.apertures.now (named_pool c.args.pool) c.in-Some.packs.items c.index.result.now c.pool_use_of_root_bus.result
    (rw c.in-Some.is at c.in_ok-packs.ensures.packed) (rw c.in-Some.is at c.in_ok-packs.ensures.bounded) c.index.ensures (c.pool_use_of_root_bus.ensures b)
