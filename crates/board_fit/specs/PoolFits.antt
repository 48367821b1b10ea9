-- How pools fit their apertures.
--     size_of x, aperture_size a pool      how many bytes an aperture has, and the one of a pool, if there is one
--     pool_fit b a pool      a pool, with the size of its aperture and how much it takes of that
--     pools_to_report fault      the pools that are reported: the one that doesn't fit, if that is the fault; all, if there is none
--     reported_pool_fits b a fault      how these fit
use Rattle.std.specs.Prelude.{ℕ, ◌+◌, ◌-◌, List, [], ◌∷◌, map, Option, Some, None, option_map}
use Rattle.model_registers.specs.Apertures.{Aperture, Apertures}
use Rattle.model_board.specs.Board.{Board}
use Rattle.model_set_up.specs.Pools.{aperture_of}
use Rattle.bus_scan.specs.declared.fault.Fault.{Fault, TheVariants.{IoPool, MemoryPool, PrefetchablePool}}
use Rattle.window_packing.specs.{declared.pool.Pool.{Pool, TheVariants.{Io, Mem, Pref}}, Plans.named_pool, Uses.told_use}
use Rattle.board_fit.specs.declared.pool_fit.PoolFit.{PoolFit}

-- from its first address to its last
abbrev pub size_of : Aperture → ℕ
size_of x = x.last + 1 - x.first

abbrev pub aperture_size : Apertures → Pool → Option ℕ
aperture_size a pool = option_map size_of (aperture_of a (named_pool pool))

abbrev pub pool_fit : Board → Apertures → Pool → PoolFit
pool_fit b a pool = record {
  pool = pool;
  size = aperture_size a pool;
  used = told_use b a (named_pool pool);
}

abbrev pub pools_to_report : Option Fault → List Pool
pools_to_report None = Io ∷ Mem ∷ Pref ∷ []
pools_to_report (Some IoPool) = Io ∷ []
pools_to_report (Some MemoryPool) = Mem ∷ []
pools_to_report (Some PrefetchablePool) = Pref ∷ []
pools_to_report (Some _) = []

abbrev pub reported_pool_fits : Board → Apertures → Option Fault → List PoolFit
reported_pool_fits b a fault = map (pool_fit b a) (pools_to_report fault)
