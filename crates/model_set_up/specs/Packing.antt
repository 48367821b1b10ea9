-- On a bus without bridges, the compact placement needs the sum of the sizes rounded up to the unit, and no lawful
-- placement needs less. On any bus it is a run of spots within the bus's `need`.
--     IsPowerOfTwo, HasPowerSizes      a size is a power of two; all sizes of an endpoint's regions are
--     Interval, IsPlacement      the range that an item gets; spots for all items of a bus
--     FlatNeed, FlatNeedOnBus      the need is the rounded sum of the sizes, and the least possible; this holds for a bus without bridges
--     IsRun, CompactIsRun      spots one after the other; the compact placement is such a run
use Rattle.std.specs.Prelude.{List, ◌≡◌, ℕ, ◌<◌, ◌+◌, ◌*◌, ◌%◌, ◌≤◌, ◌^◌, map, sum_by, IsFalse}
use Rattle.lists.specs.Elements.{Each, EachPair}
use Rattle.model_set_up.specs.{Extents.{IsInside, AreApart}, Pools.{Pool, unit_of}, Placement.{PlacementItem, round_up, PlacedItem, spot_end, spots, need, items_on}}
use Rattle.model_board.specs.{Paths.Path, Board.{Decl, endpoint, bridge, is_bridge, Board, rows_on}}
use Rattle.model_registers.specs.Apertures.{Apertures}

abbrev pub IsPowerOfTwo : ℕ → Type 0
IsPowerOfTwo n = (k : ℕ) × (n ≡ 2 ^ k)

-- the range that an item gets: its first address and its size
pub record Interval : Type 0 where
  pub first : ℕ
  pub size : ℕ

-- each item has a spot of its size at a multiple of its size; spots don't overlap, and lie within `units` units,
-- starting at `start`
pub record IsPlacement (unit start units : ℕ) (is : List PlacementItem) (spots : List Interval) : Type 0 where
  pub sizes : map (λ s. s.size) spots ≡ map (λ i. i.size) is
  pub aligned : Each (λ s. s.first % s.size ≡ 0) spots
  pub within : Each (λ s. IsInside start (start + units * unit) s.first s.size) spots
  pub apart : EachPair (λ s t. AreApart s.first s.size t.first t.size) spots

pub record FlatNeed (unit : ℕ) (is : List PlacementItem) : Type 0 where
  pub is_sum : need unit is ≡ round_up unit (sum_by (λ i. i.size) is)
  pub least : (start units : ℕ) (spots : List Interval) → IsPlacement unit start units is spots
      → need unit is ≤ units * unit

-- the sizes of an endpoint's regions are powers of two
abbrev pub HasPowerSizes : Decl → Type 0
HasPowerSizes (endpoint d) = Each (λ r. IsPowerOfTwo r.size) d.regions
HasPowerSizes (bridge d) = Unit {0}

abbrev pub FlatNeedOnBus : Type 0
FlatNeedOnBus = (b : Board) (a : Apertures) (pool : Pool) (bus : Path)
    → Each (λ r. IsFalse (is_bridge r.decl)) (rows_on b bus) → Each (λ r. HasPowerSizes r.decl) b
    → FlatNeed (unit_of pool) (items_on b a pool bus)

-- spots of one bus: each at a multiple of its alignment, from `start` on, before `stop`, and before all later ones
pub record IsRun (start stop : ℕ) (ss : List PlacedItem) : Type 0 where
  pub aligned : Each (λ s. s.first % s.item.align ≡ 0) ss
  pub within : Each (λ s. (start ≤ s.first) × (spot_end s ≤ stop)) ss
  pub apart : EachPair (λ s t. spot_end s ≤ t.first) ss

-- the compact placement of a bus, including windows, stays within the bus's `need`
abbrev pub CompactIsRun : Type 0
CompactIsRun = (unit : ℕ) (is : List PlacementItem) → 0 < unit → Each (λ i. 0 < i.align) is → IsRun 0 (need unit is) (spots is)
