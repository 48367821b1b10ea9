-- The compact placement is lawful, and its rows are where set-up places the declared regions and windows.
--     PoolsAreLawful, LayoutIsLawful      if a pool fits, its rows are lawful
--     HasRows      each region and each window has exactly one row, and there are no other rows
use Rattle.std.specs.Prelude.{List, [], ◌∷◌, ◌≡◌, ◌&&◌, filter, IsTrue}
use Rattle.lists.specs.Elements.{Each, IsIn}
use Rattle.model_registers.specs.{Declarations.Region, Apertures.Apertures}
use Rattle.model_board.specs.{Paths.{Path, path_eq}, Board.{Decl, endpoint, bridge, Row, Board, IsBoard}, Lawful.HasLawfulDecls}
use Rattle.model_set_up.specs.{Pools.{Pool, unit_of, bridges_above, pool_of}, Placement.{Placed, a_region, a_window, same_placed, PlacementItem, need, items_on, fits, bus_first}, Layout.{LayoutRow, IsLawful, pool_rows, layout}, SetUp.first_of}

abbrev pub PoolsAreLawful : Type 0
PoolsAreLawful = (b : Board) (a : Apertures) → IsBoard b → HasLawfulDecls b → (pool : Pool) → IsTrue (fits b a pool)
    → IsLawful b a (pool_rows b a pool)

abbrev pub LayoutIsLawful : Type 0
LayoutIsLawful = (b : Board) (a : Apertures) → IsBoard b → HasLawfulDecls b → ((pool : Pool) → IsTrue (fits b a pool))
    → IsLawful b a (layout b a)

-- the pool of a region of the endpoint at p
abbrev pub pool_at : Board → Apertures → Path → Region → Pool
pool_at b a p r = pool_of a (bridges_above b p) r.kind

abbrev pub region_row : Board → Apertures → Path → Region → LayoutRow
region_row b a p r =
    record { path = p; what = a_region r.index; pool = pool_at b a p r; first = first_of b a p r; size = r.size }

abbrev pub window_row : Board → Apertures → Pool → Path → LayoutRow
window_row b a pool p = record {
  path = p;
  what = a_window;
  pool = pool;
  first = bus_first b a pool p;
  size = need (unit_of pool) (items_on b a pool p);
}

-- a bridge has a window if there are items behind it
abbrev pub window_rows : Board → Apertures → Pool → Path → List PlacementItem → List LayoutRow
window_rows b a pool p [] = []
window_rows b a pool p (i ∷ is) = window_row b a pool p ∷ []

-- the pool's rows for this region or window of the function at p
abbrev pub rows_at : Board → Apertures → Pool → Path → Placed → List LayoutRow
rows_at b a pool p w = filter (λ r. path_eq r.path p && same_placed r.what w) (pool_rows b a pool)

-- each region has one row in its pool; a bridge has one in each pool with items behind the bridge
abbrev pub HasOwnRows : Board → Apertures → Path → Decl → Type 0
HasOwnRows b a p (endpoint d) =
    Each (λ r. rows_at b a (pool_at b a p r) p (a_region r.index) ≡ region_row b a p r ∷ []) d.regions
HasOwnRows b a p (bridge d) = (pool : Pool) → rows_at b a pool p a_window ≡ window_rows b a pool p (items_on b a pool p)

-- the row belongs to a region in this pool, or to a window
abbrev pub IsRowFor : Board → Apertures → Pool → LayoutRow → Path → Decl → Type 0
IsRowFor b a pool row p (endpoint d) =
    (r : Region) × IsIn r d.regions × (pool_at b a p r ≡ pool) × (row ≡ region_row b a p r)
IsRowFor b a pool row p (bridge d) = IsIn row (window_rows b a pool p (items_on b a pool p))

pub record HasRows (b : Board) (a : Apertures) : Type 0 where
  pub each_has : Each (λ r. HasOwnRows b a r.path r.decl) b
  pub no_others : (pool : Pool)
      → Each (λ row. (r : Row) × IsIn r b × IsRowFor b a pool row r.path r.decl) (pool_rows b a pool)

abbrev pub RowsAreDeclared : Type 0
RowsAreDeclared = (b : Board) (a : Apertures) → IsBoard b → HasLawfulDecls b → HasRows b a
