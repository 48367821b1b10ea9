use Rattle.std.proofs.Common.{◌≡◌, ◌++◌, map, drop}
use Rattle.model_board.specs.Board.{Board}
use Rattle.bus_scan.specs.SizedTables.{IsTableOf}
use Rattle.board_fit.specs.PoolFits.{pool_fit}
use Rattle.board_fit.proofs.pool_fit.reported_pool_fits.Given as goal

abbrev pub invariant-pools : goal.invariant-pools
invariant-pools l =
    (b : Board) → IsTableOf b l.table
    → l.fits.items ++ map (pool_fit b l.apertures) (drop l.pool-index l.pool-items) ≡ map (pool_fit b l.apertures) l.pool-items
