-- The addresses at which set-up places regions and windows, one pool at a time: this project's own rule. A window is a
-- whole number of units: PCI-to-PCI Bridge Architecture 1.2, chapter 3.2.5.
--     Placed, PlacementItem      the region of a register or a bridge's window; one of these on a bus, with its alignment and size
--     in_order      items by descending alignment, then device, function and register
--     PlacedItem, spots      an item and its offset on the bus; the items one after the other
--     need, alignment      the size and the alignment of a bus's window
--     items_on      the items on a bus: its regions in the pool, and the windows of its bridges that have items behind them
--     fits      whether a pool fits in its aperture
--     bus_first, region_first      the first address of a bus, and of a region
use Rattle.std.specs.{Prelude.{List, [], ◌∷◌, ℕ, ◌-◌, zero, suc, ◌+◌, ◌*◌, ◌/◌, Bool, true, false, ◌&&◌, ◌==◌, if◌then◌else◌, ◌++◌, flat_map, ◌||◌, nat_lt, nat_le, map, filter, max}, Option.option_map_or}
use Rattle.model_registers.specs.{Declarations.{Region, Endpoint}, Apertures.{Aperture, Apertures}}
use Rattle.model_board.specs.{Paths.{Part, Path, part_eq, parent, last_part}, Board.{endpoint, bridge, Row, Board, rows_on}}
use Rattle.model_set_up.specs.Pools.{Pool, same_pool, unit_of, bridges_above, pool_of, aperture_of}

-- the object placed: the region of a base address register, or the window of a bridge
pub data Placed : Type 0 where
  a_region : ℕ → Placed
  a_window : Placed

abbrev pub same_placed : Placed → Placed → Bool
same_placed (a_region n) (a_region m) = n == m
same_placed a_window a_window = true
same_placed (a_region n) a_window = false
same_placed a_window (a_region m) = false

-- the register that distinguishes the items of one function; a bridge has at most one item
abbrev pub register_of : Placed → ℕ
register_of (a_region n) = n
register_of a_window = 0

-- one item of a function on a bus, with its alignment and size
pub record PlacementItem : Type 0 where
  pub part : Part
  pub what : Placed
  pub align : ℕ
  pub size : ℕ

-- descending alignment, then device, function and register
abbrev pub stands_before : PlacementItem → PlacementItem → Bool
stands_before i j =
    nat_lt j.align i.align || (i.align == j.align && (nat_lt i.part.device j.part.device
    || (i.part.device == j.part.device && (nat_lt i.part.function j.part.function
    || (i.part.function == j.part.function && nat_lt (register_of i.what) (register_of j.what))))))

abbrev pub inserted : PlacementItem → List PlacementItem → List PlacementItem
inserted i [] = i ∷ []
inserted i (j ∷ js) = if stands_before j i then j ∷ inserted i js else i ∷ j ∷ js

abbrev pub in_order : List PlacementItem → List PlacementItem
in_order [] = []
in_order (i ∷ is) = inserted i (in_order is)

-- the smallest multiple of a that is at least n
abbrev pub round_up : ℕ → ℕ → ℕ
round_up a n = (n + (a - 1)) / a * a

-- the end of the last item, if the first may start at n
abbrev pub end_from : ℕ → List PlacementItem → ℕ
end_from n [] = n
end_from n (i ∷ is) = end_from (round_up i.align n + i.size) is

-- an item and the offset at which it begins
pub record PlacedItem : Type 0 where
  pub item : PlacementItem
  pub first : ℕ

abbrev pub spot_end : PlacedItem → ℕ
spot_end s = s.first + s.item.size

-- the items one after the other, each at the smallest multiple of its alignment that isn't before the previous one's end
abbrev pub spots_from : ℕ → List PlacementItem → List PlacedItem
spots_from n [] = []
spots_from n (i ∷ is) = record { item = i; first = round_up i.align n } ∷ spots_from (round_up i.align n + i.size) is

abbrev pub spots : List PlacementItem → List PlacedItem
spots is = spots_from 0 (in_order is)

-- the item is this region or window of the function at this part
abbrev pub is_item : Part → Placed → PlacementItem → Bool
is_item p w i = part_eq i.part p && same_placed i.what w

-- its offset on the bus
abbrev pub offset_in : List PlacedItem → Part → Placed → ℕ
offset_in [] p w = 0
offset_in (s ∷ ss) p w = if is_item p w s.item then s.first else offset_in ss p w

abbrev pub need : ℕ → List PlacementItem → ℕ
need unit is = round_up unit (end_from 0 (in_order is))

abbrev pub alignment : ℕ → List PlacementItem → ℕ
alignment unit [] = unit
alignment unit (i ∷ is) = max i.align (alignment unit is)

abbrev pub region_item : Part → Region → PlacementItem
region_item p r = record { part = p; what = a_region r.index; align = r.size; size = r.size }

abbrev pub region_items : Board → Apertures → Pool → Path → Endpoint → List PlacementItem
region_items b a pool p d =
    map (region_item (last_part p)) (filter (λ r. same_pool (pool_of a (bridges_above b p) r.kind) pool) d.regions)

-- a bus without items has no window
abbrev pub window_items : ℕ → Part → List PlacementItem → List PlacementItem
window_items unit p [] = []
window_items unit p (i ∷ is) =
    record { part = p; what = a_window; align = alignment unit (i ∷ is); size = need unit (i ∷ is) } ∷ []

abbrev pub items_of : Board → Apertures → Pool → (Path → List PlacementItem) → Row → List PlacementItem
items_of b a pool behind r =
    elim r.decl [
      | endpoint d ↦ region_items b a pool r.path d
      | bridge d ↦ window_items (unit_of pool) (last_part r.path) (behind r.path)
    ]

-- the items of a bus, with at most n levels of buses, counting the bus itself
abbrev pub items_within : Board → Apertures → Pool → ℕ → Path → List PlacementItem
items_within b a pool zero bus = []
items_within b a pool (suc n) bus = flat_map (items_of b a pool (items_within b a pool n)) (rows_on b bus)

-- a path has at most 16 parts, so there are at most 16 levels
abbrev pub items_on : Board → Apertures → Pool → Path → List PlacementItem
items_on b a pool bus = items_within b a pool 16 bus

-- bus 0 starts at the smallest multiple of its alignment that isn't before the aperture
abbrev pub root_bus_start : Apertures → Pool → List PlacementItem → ℕ
root_bus_start a pool is =
    option_map_or (λ (ap : Aperture). round_up (alignment (unit_of pool) is) ap.first) (aperture_of a pool) 0

abbrev pub aperture_end_or_zero : Apertures → Pool → ℕ
aperture_end_or_zero a pool = option_map_or (λ (ap : Aperture). ap.last + 1) (aperture_of a pool) 0

abbrev pub fits_items : Apertures → Pool → List PlacementItem → Bool
fits_items a pool [] = true
fits_items a pool (i ∷ is) = nat_le (root_bus_start a pool (i ∷ is) + end_from 0 (in_order (i ∷ is))) (aperture_end_or_zero a pool)

abbrev pub fits : Board → Apertures → Pool → Bool
fits b a pool = fits_items a pool (items_on b a pool [])

abbrev pub offset_on : Board → Apertures → Pool → Path → Part → Placed → ℕ
offset_on b a pool bus p w = offset_in (spots (items_on b a pool bus)) p w

-- the first address of a bus in a pool, reached from the bus `above`, which starts at `n`, through these parts
abbrev pub first_below : Board → Apertures → Pool → ℕ → Path → Path → ℕ
first_below b a pool n above [] = n
first_below b a pool n above (p ∷ ps) =
    first_below b a pool (n + offset_on b a pool above p a_window) (above ++ p ∷ []) ps

abbrev pub bus_first : Board → Apertures → Pool → Path → ℕ
bus_first b a pool bus = first_below b a pool (root_bus_start a pool (items_on b a pool [])) [] bus

abbrev pub region_first : Board → Apertures → Pool → Path → ℕ → ℕ
region_first b a pool p k = bus_first b a pool (parent p) + offset_on b a pool (parent p) (last_part p) (a_region k)
