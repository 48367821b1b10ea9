use Rattle.std.{proofs.Common.{◌≡◌, Option, Result, List, arith}, specs.Prelude.{IfOk, IfSome, nat_le}}
use Rattle.model_registers.specs.Apertures.{Apertures}
use Rattle.model_board.specs.Board.{Board}
use Rattle.model_set_up.specs.{Pools.Pool, Placement.fits, FunctionTable.{TableRow, board_in}}
use Rattle.bus_scan.specs.SizedTables.{IsTableOf}
use Rattle.window_packing.{specs.{declared.pool_uses.PoolUse.PoolUse, Plans.named_pool, Uses.told_use}, proofs.{TablePlans.use_of, UseFits.use_fits}}
use Rattle.window_packing.proofs.pool_uses.pool_use.Goals as goal

module _ {E : Type 0} (t rows : List TableRow) (same : rows ≡ t) (a : Apertures) (pool : Pool) where
  of_all : (r : Result (Option PoolUse) E) → IfOk r (λ u. u ≡ told_use (board_in rows) a pool) → IfOk r (λ u. (b : Board) → IsTableOf b t → u ≡ told_use b a pool)
  of_all r is = grind (arith, use_of)

  fit_all : (r : Result (Option PoolUse) E) → IfOk r (λ u. u ≡ told_use (board_in rows) a pool)
      → IfOk r (λ o. IfSome o (λ u. (b : Board) → IsTableOf b t → fits b a pool ≡ nat_le u.extent u.room))
  fit_all r is = grind (arith, use_fits, use_of)

pub returns-clause-value : goal.returns-clause-value
returns-clause-value c = of_all c.args.table.now c.rows-rows.result.now c.rows-rows.ensures c.args.apertures.now (named_pool c.args.pool) c.pool_use_of_rows.result c.pool_use_of_rows.ensures

pub returns-clause-fits : goal.returns-clause-fits
returns-clause-fits c = fit_all c.args.table.now c.rows-rows.result.now c.rows-rows.ensures c.args.apertures.now (named_pool c.args.pool) c.pool_use_of_rows.result c.pool_use_of_rows.ensures
