-- How much of its aperture a pool needs (placement is this project's own rule).
--     pool_use      where bus 0 begins in a pool, how far its items extend from there, and how far the aperture does
--     told_use      the same, where they extend over 2 ^ 63 bytes at most
use Rattle.std.specs.Prelude.{List, [], ◌-◌, ◌^◌, if◌then◌else◌, nat_le, Option, Some, None}
use Rattle.model_board.specs.Board.{Board}
use Rattle.model_set_up.specs.{Pools.Pool, Placement.{PlacementItem, in_order, end_from, items_on, root_bus_start, aperture_end_or_zero}}
use Rattle.model_registers.specs.Apertures.{Apertures}
use Rattle.window_packing.specs.declared.pool_uses.PoolUse.{PoolUse}

-- by the items of bus 0
abbrev pub use_by : Apertures → Pool → List PlacementItem → PoolUse
use_by a pool is = record {
  first = root_bus_start a pool is;
  extent = end_from 0 (in_order is);
  room = aperture_end_or_zero a pool - root_bus_start a pool is;
}

abbrev pub told_by : Apertures → Pool → List PlacementItem → Option PoolUse
told_by a pool is = if nat_le (end_from 0 (in_order is)) (2 ^ 63) then Some (use_by a pool is) else None

abbrev pub pool_use : Board → Apertures → Pool → PoolUse
pool_use b a pool = use_by a pool (items_on b a pool [])

abbrev pub told_use : Board → Apertures → Pool → Option PoolUse
told_use b a pool = told_by a pool (items_on b a pool [])
