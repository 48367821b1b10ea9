-- One pool of a board, placed (this project's own rule).
--     bus_paths      the paths of all buses, by index
--     PlacedPool, IsPlaced      each bus with its items, and its first address
--     Placement, IsPlacement      all three pools, placed
--     pool_in      one of them
--     IsAboveAt      the bus of the function of a row, and the windows that all bridges above it have
--     IsRegionAt      a region of the endpoint of a row
--     is_bar_in, is_port      a register's region lies in a space; it is of I/O
use Rattle.std.specs.Prelude.{List, [], ◌∷◌, ◌≡◌, ℕ, Bool, false, Option, Some, None, map, slice_get, IsTrue}
use Rattle.model_registers.specs.{Apertures.{IsLawfulApertures, Apertures}, Declarations.{Bar, Region, Endpoint}, Decoding.{Space, same_space, space_of}}
use Rattle.model_board.specs.{Paths.Path, Board.{endpoint, Row, Board}}
use Rattle.lists.specs.Elements.{IsIn}
use Rattle.model_set_up.specs.{Pools.{Pool, io_pool, mem_pool, pref_pool, is_io}, Placement.{fits, bus_first}}
use Rattle.window_packing.specs.{declared.upstream_windows.UpstreamSupport.UpstreamSupport, Buses.AreAbove, Packs.{PackedBus, packs_of}}

abbrev pub bus_paths : Board → List Path
bus_paths b = [] ∷ map (λ (r : Row). r.path) b

pub record PlacedPool : Type 0 where
  pub packs : List PackedBus
  pub firsts : List ℕ

-- the pool fits its aperture, and these are the addresses of its buses
pub record IsPlaced (b : Board) (a : Apertures) (pool : Pool) (p : PlacedPool) : Type 0 where
  pub apertures : IsLawfulApertures a
  pub fit : IsTrue (fits b a pool)
  pub packs : p.packs ≡ packs_of b a pool
  pub firsts : p.firsts ≡ map (bus_first b a pool) (bus_paths b)

pub record Placement : Type 0 where
  pub io : PlacedPool
  pub mem : PlacedPool
  pub pref : PlacedPool

pub record IsPlacement (b : Board) (a : Apertures) (p : Placement) : Type 0 where
  pub io : IsPlaced b a io_pool p.io
  pub mem : IsPlaced b a mem_pool p.mem
  pub pref : IsPlaced b a pref_pool p.pref

abbrev pub pool_in : Placement → Pool → PlacedPool
pool_in p io_pool = p.io
pool_in p mem_pool = p.mem
pool_in p pref_pool = p.pref

-- what is told stands above the function of a row
pub record IsAboveAt (b : Board) (i : ℕ) (x : UpstreamSupport) : Type 0 where
  pub all : List UpstreamSupport
  pub told : AreAbove b all
  pub there : slice_get all i ≡ Some x

-- the function of a row is an endpoint that has this region
pub record IsRegionAt (b : Board) (i : ℕ) (k : Region) : Type 0 where
  pub path : Path
  pub decl : Endpoint
  pub there : slice_get b i ≡ Some (record { path = path; decl = endpoint decl })
  pub own : IsIn k decl.regions

-- a register's region lies in a space
abbrev pub is_bar_in : Space → Option Bar → Bool
is_bar_in space None = false
is_bar_in space (Some bar) = same_space (space_of bar.kind) space

abbrev pub is_port : Option Bar → Bool
is_port None = false
is_port (Some bar) = is_io bar.kind
