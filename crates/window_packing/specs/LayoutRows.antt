-- The rows of a layout, read from a placement: windows, PCI-to-PCI Bridge Architecture 1.2, chapter 3.2.5.
--     bus_at      the path of the bus with an index: 0 is bus 0, and 1 + n the bus behind the function at the nth path
--     rows_along, rows_in, rows_of      the rows of buses, of a pool, and of all three pools
--     IsListable, AreListable      a pool whose rows are no deeper than a path and below 2 ^ 64; all three pools
use Rattle.std.specs.Prelude.{List, [], ◌∷◌, ◌++◌, ◌≡◌, ℕ, suc, ◌+◌, ◌<◌, ◌^◌, Some, map, length, slice_get, unwrap_or}
use Rattle.lists.specs.Elements.{Each}
use Rattle.model_board.specs.Paths.{Path}
use Rattle.model_set_up.specs.{Pools.{Pool, io_pool, mem_pool, pref_pool}, Layout.{LayoutRow, row_of}}
use Rattle.window_packing.specs.{Packs.PackedBus, Placed.{PlacedPool, Placement}}

abbrev pub bus_at : List Path → ℕ → Path
bus_at paths bus = unwrap_or (slice_get ([] ∷ paths) bus) []

-- the buses with their first addresses and their items
abbrev pub rows_along : Pool → List Path → List ℕ → List PackedBus → List LayoutRow
rows_along pool (bus ∷ buses) (n ∷ ns) (p ∷ ps) = map (row_of pool bus n) p.spots ++ rows_along pool buses ns ps
rows_along pool buses ns ps = []

abbrev pub rows_in : Pool → List Path → PlacedPool → List LayoutRow
rows_in pool paths p = rows_along pool ([] ∷ paths) p.firsts p.packs

abbrev pub rows_of : List Path → Placement → List LayoutRow
rows_of paths p = rows_in io_pool paths p.io ++ (rows_in mem_pool paths p.mem ++ rows_in pref_pool paths p.pref)

pub record IsListable (paths : List Path) (p : PlacedPool) : Type 0 where
  pub firsts : length p.firsts ≡ suc (length paths)
  pub packs : length p.packs ≡ suc (length paths)
  pub deep : (k : ℕ) (pack : PackedBus) → slice_get p.packs k ≡ Some pack →
      Each (λ s. length (bus_at paths k) < 16) pack.spots
  pub room : (k n : ℕ) (pack : PackedBus) → slice_get p.firsts k ≡ Some n → slice_get p.packs k ≡ Some pack →
      Each (λ s. n + s.first < 2 ^ 64) pack.spots

pub record AreListable (paths : List Path) (p : Placement) : Type 0 where
  pub io : IsListable paths p.io
  pub mem : IsListable paths p.mem
  pub pref : IsListable paths p.pref
