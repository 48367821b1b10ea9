-- The rules for any placement of regions and windows, and the rows of the compact placement. Windows: PCI-to-PCI Bridge
-- Architecture 1.2, chapter 3.2.5.
--     LayoutRow      a region or a window at a path, with its pool, first address and size
--     IsLawful      aligned, inside the aperture, inside the windows above, and without overlaps
--     bus_rows, pool_rows, layout      the rows of the compact placement, bus by bus, in the order of each bus
use Rattle.std.specs.{Prelude.{List, [], ◌∷◌, ◌≡◌, ℕ, ◌+◌, ◌%◌, Bool, false, ◌&&◌, ◌++◌, flat_map, map, filter, IsTrue, MatchOption}, List.list_any}
use Rattle.lists.specs.Elements.{Each, EachPair}
use Rattle.model_board.specs.{Paths.{Path, path_eq, is_ancestor_of, parent}, Board.{is_bridge, Board}}
use Rattle.model_set_up.specs.{Pools.{Pool, io_pool, mem_pool, pref_pool, same_pool, unit_of, aperture_of}, Extents.{IsInside, AreApart}, Placement.{Placed, a_region, a_window, PlacedItem, spots, items_on, bus_first}}
use Rattle.model_registers.specs.Apertures.{Apertures}

pub record LayoutRow : Type 0 where
  pub path : Path
  pub what : Placed
  pub pool : Pool
  pub first : ℕ
  pub size : ℕ

-- a region starts at a multiple of its size; a window consists of whole units
abbrev pub IsAligned : LayoutRow → Placed → Type 0
IsAligned r (a_region n) = r.first % r.size ≡ 0
IsAligned r a_window = (r.first % unit_of r.pool ≡ 0) × (r.size % unit_of r.pool ≡ 0)

-- w is the window, in r's pool, of a bridge above r
abbrev pub is_window_over : LayoutRow → LayoutRow → Bool
is_window_over r w = elim w.what [ a_region n ↦ false | a_window ↦ same_pool w.pool r.pool && is_ancestor_of w.path r.path ]

-- inside every window above it, and each bridge above has such a window
pub record IsUnderWindows (b : Board) (rows : List LayoutRow) (r : LayoutRow) : Type 0 where
  pub inside :
      Each (λ w. IsTrue (is_window_over r w) → IsInside w.first (w.first + w.size) r.first r.size) rows
  pub there :
      Each (λ d. IsTrue (is_ancestor_of d.path r.path)
      → IsTrue (list_any (λ w. is_window_over r w && path_eq w.path d.path) rows)) b

pub record IsLawful (b : Board) (a : Apertures) (rows : List LayoutRow) : Type 0 where
  pub aligned : Each (λ r. IsAligned r r.what) rows
  pub in_apertures :
      Each (λ r. MatchOption (aperture_of a r.pool) ⊥ (λ ap. IsInside ap.first (ap.last + 1) r.first r.size)) rows
  pub under_windows : Each (IsUnderWindows b rows) rows
  -- two rows of one pool on one bus
  pub apart :
      EachPair (λ r s. IsTrue (same_pool r.pool s.pool && path_eq (parent r.path) (parent s.path))
      → AreApart r.first r.size s.first s.size) rows

-- the row for a spot on the bus whose first address is n
abbrev pub row_of : Pool → Path → ℕ → PlacedItem → LayoutRow
row_of pool bus n s =
    record { path = bus ++ s.item.part ∷ []; what = s.item.what; pool = pool; first = n + s.first; size = s.item.size }

abbrev pub bus_rows : Board → Apertures → Pool → Path → List LayoutRow
bus_rows b a pool bus = map (row_of pool bus (bus_first b a pool bus)) (spots (items_on b a pool bus))

-- bus 0, and the bus behind each bridge, in path order
abbrev pub buses : Board → List Path
buses b = [] ∷ map (λ r. r.path) (filter (λ r. is_bridge r.decl) b)

abbrev pub pool_rows : Board → Apertures → Pool → List LayoutRow
pool_rows b a pool = flat_map (bus_rows b a pool) (buses b)

abbrev pub layout : Board → Apertures → List LayoutRow
layout b a = flat_map (pool_rows b a) (io_pool ∷ mem_pool ∷ pref_pool ∷ [])
