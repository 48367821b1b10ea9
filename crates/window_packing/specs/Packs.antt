-- A bus with its items placed one after the other (this project's own rule; a window extends over whole units:
-- PCI-to-PCI Bridge Architecture 1.2, chapter 3.2.5).
--     PackedBus      the spots of a bus's items, the bus's alignment, and where its last item ends
--     pack_items, pack_of, packs_of      items placed on a bus; a bus of the board, and all of them
--     IsBounded      an alignment of a region, and an end that an aperture could hold
--     HasOneOrder, IsPackable      items that can be sorted in one way alone, with lawful alignments
--     IsOver      what is said of all bridges above a function is so of a list of bridges
--     pool_items, regions_from      the regions of a pool as items; the regions of base address registers
--     window_of, own_items      the window of a bus; what a function has on its own bus
use Rattle.std.specs.{Prelude.{List, [], ◌∷◌, ◌≡◌, ℕ, ◌<◌, ◌≤◌, ◌^◌, Option, map, filter}, List.list_all}
use Rattle.lists.specs.Elements.{Each}
use Rattle.model_registers.specs.{Declarations.{Bar, Bridge, Region}, EndpointTable.opened, Apertures.Apertures}
use Rattle.model_board.specs.{Paths.{Part, Path, last_part}, Board.{Board, Decl, endpoint, bridge}}
use Rattle.model_set_up.specs.{Pools.{Pool, same_pool, unit_of, pool_of, has_pref, has_pref64}, Placement.{a_window, PlacementItem, region_item, in_order, end_from, PlacedItem, spots, alignment, round_up, items_on}, OrderLaws.IsOrderOf}
use Rattle.bars.specs.Resets.{reset_from}
use Rattle.window_packing.specs.declared.upstream_windows.UpstreamSupport.{UpstreamSupport}

pub record PackedBus : Type 0 where
  pub spots : List PlacedItem
  pub align : ℕ
  pub end : ℕ

abbrev pub pack_items : ℕ → List PlacementItem → PackedBus
pack_items unit is = record { spots = spots is; align = alignment unit is; end = end_from 0 (in_order is) }

abbrev pub pack_of : Board → Apertures → Pool → Path → PackedBus
pack_of b a pool bus = pack_items (unit_of pool) (items_on b a pool bus)

-- bus 0, and the bus behind each function in path order; no items are behind an endpoint
abbrev pub packs_of : Board → Apertures → Pool → List PackedBus
packs_of b a pool = map (pack_of b a pool) ([] ∷ map (λ r. r.path) b)

-- the sum of such an end and an address of an aperture, rounded up, is below 2 ^ 64
pub record IsBounded (p : PackedBus) : Type 0 where
  pub some : 0 < p.align
  pub aligned : p.align ≤ 2 ^ 40
  pub ends : p.end ≤ 2 ^ 63

-- however the items are sorted, they come in one order
abbrev pub HasOneOrder : List PlacementItem → Type 0
HasOneOrder is = (js : List PlacementItem) → IsOrderOf is js → js ≡ in_order is

-- no alignment is greater than the greatest size of a region
abbrev pub HasLawfulAlign : PlacementItem → Type 0
HasLawfulAlign i = (0 < i.align) × (i.align ≤ 2 ^ 40)

pub record IsPackable (is : List PlacementItem) : Type 0 where
  pub order : HasOneOrder is
  pub aligns : Each HasLawfulAlign is

-- what x says of all bridges above a function is so of these
pub record IsOver (ds : List Bridge) (x : UpstreamSupport) : Type 0 where
  pub pref : x.pref ≡ list_all (λ d. has_pref d.pref) ds
  pub pref64 : x.pref64 ≡ list_all (λ d. has_pref64 d.pref) ds

-- the regions of one function that are of the pool, behind these bridges
abbrev pub pool_items : Apertures → List Bridge → Pool → Part → List Region → List PlacementItem
pool_items a ds pool p rs = map (region_item p) (filter (λ r. same_pool (pool_of a ds r.kind) pool) rs)

-- the regions at registers from an index on
abbrev pub regions_from : ℕ → List (Option Bar) → List Region
regions_from n bars = map opened (reset_from n bars)

-- the window of a bus that has spots
abbrev pub window_of : ℕ → Part → PackedBus → List PlacedItem → List PlacementItem
window_of unit p pack [] = []
window_of unit p pack (s ∷ ss) =
    record { part = p; what = a_window; align = pack.align; size = round_up unit pack.end } ∷ []

-- what a function has on its own bus, given the bus behind it
abbrev pub own_items : Apertures → List Bridge → Pool → Path → Decl → PackedBus → List PlacementItem
own_items a ds pool p (endpoint d) behind = pool_items a ds pool (last_part p) d.regions
own_items a ds pool p (bridge d) behind = window_of (unit_of pool) (last_part p) behind behind.spots
