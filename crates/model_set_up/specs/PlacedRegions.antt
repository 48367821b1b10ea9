-- The regions where set-up places them, as one flat list: the claims of a board, without mentioning bridges.
--     PlacedRegion      a region's path and register, its space, first address and size
--     placed_regions      all regions of a board, in path order, then by register
--     placed_rows      the regions among the rows of a layout
--     holds      a placed region contains an address
--     placed_claim      the claim of the first placed region that contains an address
use Rattle.std.specs.Prelude.{List, [], ◌∷◌, ℕ, ◌-◌, ◌+◌, Bool, ◌&&◌, if◌then◌else◌, nat_lt, nat_le, Option, Some, None, map, flat_map}
use Rattle.lists.specs.Elements.{first_some}
use Rattle.model_registers.specs.{Declarations.Region, Decoding.{Space, io, memory, space_of, same_space}, Apertures.Apertures}
use Rattle.model_board.specs.{Paths.Path, Board.{endpoint, bridge, Row, Board}, Claims.Claim}
use Rattle.model_set_up.specs.{Pools.{Pool, io_pool, mem_pool, pref_pool}, Placement.{a_region, a_window}, Layout.LayoutRow, SetUp.first_of}

pub record PlacedRegion : Type 0 where
  pub path : Path
  pub index : ℕ
  pub space : Space
  pub first : ℕ
  pub size : ℕ

abbrev pub placed : Board → Apertures → Path → Region → PlacedRegion
placed b a p r = record { path = p; index = r.index; space = space_of r.kind; first = first_of b a p r; size = r.size }

abbrev pub placed_at : Board → Apertures → Row → List PlacedRegion
placed_at b a r = elim r.decl [ endpoint d ↦ map (placed b a r.path) d.regions | bridge d ↦ [] ]

abbrev pub placed_regions : Board → Apertures → List PlacedRegion
placed_regions b a = flat_map (placed_at b a) b

-- the space of a pool's addresses
abbrev pub pool_space : Pool → Space
pool_space io_pool = io
pool_space mem_pool = memory
pool_space pref_pool = memory

-- the placed region of a row; none if the row is a window
abbrev pub placed_row : LayoutRow → List PlacedRegion
placed_row r = elim r.what [
  | a_region n ↦
      record { path = r.path; index = n; space = pool_space r.pool; first = r.first; size = r.size } ∷ []
  | a_window ↦ []
]

abbrev pub placed_rows : List LayoutRow → List PlacedRegion
placed_rows rows = flat_map placed_row rows

abbrev pub holds : Space → ℕ → PlacedRegion → Bool
holds space n r = same_space r.space space && nat_le r.first n && nat_lt n (r.first + r.size)

abbrev pub claim_in : Space → ℕ → PlacedRegion → Option Claim
claim_in space n r =
    if holds space n r then Some (record { path = r.path; index = r.index; offset = n - r.first }) else None

abbrev pub placed_claim : Board → Apertures → Space → ℕ → Option Claim
placed_claim b a space n = first_some (claim_in space n) (placed_regions b a)
