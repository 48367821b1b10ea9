-- The compact placement of one bus doesn't depend on the recursion bound in `items_on`.
--     ItemsByBus      the items of a bus, given the items behind its bridges
use Rattle.std.specs.Prelude.{◌≡◌, flat_map}
use Rattle.model_board.specs.{Paths.Path, Board.{Board, rows_on, IsBoard}}
use Rattle.model_set_up.specs.{Pools.Pool, Placement.{items_of, items_on}}
use Rattle.model_registers.specs.Apertures.{Apertures}

-- the items of a bus are the regions on it, and the windows of its bridges, computed from the items behind them
abbrev pub ItemsByBus : Type 0
ItemsByBus = (b : Board) → IsBoard b → (a : Apertures) (pool : Pool) (bus : Path)
    → items_on b a pool bus ≡ flat_map (items_of b a pool (items_on b a pool)) (rows_on b bus)
