-- What stands on a bus: each item has a power of two for its alignment and some size, and no two are of the same region or window.
use Rattle.std.{proofs.{Common.{◌≡◌, ℕ, zero, suc, ◌+◌, ◌%◌, ◌≤◌, ◌<◌, max, ◌⊎◌, inl, inr, Bool, true, false, cond, List, [], ◌∷◌, ◌++◌, refl, sym, ap, ap₂, ◌∙◌, subst, arith, rules}, lemmas.Bool.{cases_lt, Decides.nat_tests}}, specs.Prelude.filter}
use Rattle.lists.{specs.Elements.{Each, EachPair, IsIn}, proofs.{Members.{each_in, each_from, from_flat_map, from_map, from_filter, in_filter, in_flat_map, pairs_weaker, pairs_flat_map, pairs_of_map}, EachLemmas.pairs_filter}}
use Rattle.model_registers.specs.{Declarations.{Endpoint, Region, IsLawfulRegion}, Apertures.Apertures}
use Rattle.model_board.{specs.{Board.{Board, Row, Decl, endpoint, bridge, rows_on, IsBoard}, Paths.{Part, Path, part_eq, path_eq, parent, last_part, IsPath}, Lawful.{IsLawfulDecl, HasLawfulDecls}}, proofs.{PathOrder.{part_same, path_same, part_eq-sym, part_self}, PathEnds.{snoc, path_self, not_before_itself}}}
use Rattle.model_set_up.{specs.{Pools.{Pool, io_pool, unit_of, same_pool, pool_of, bridges_above}, Placement.{Placed, a_region, a_window, same_placed, PlacementItem, is_item, inserted, stands_before, in_order, end_from, round_up, need, alignment, PlacedItem, spots_from, spots, offset_in, region_item, region_items, window_items, items_of, items_within, items_on}, Packing.{IsPowerOfTwo, IsRun}}, proofs.{Packing.{power_positive, round_up_not_before, round_up_is_multiple, run_in_order}, InOrder.{from_inserted, in_in_order, from_in_order}, Levels.bus_items_are_bars_and_windows}}

-- ---- items in order, and their spots

abbrev SpotOf : PlacementItem → List PlacedItem → Type 0
SpotOf i ss = (s : PlacedItem) × IsIn s ss × (s.item ≡ i)

spot_from : (n : ℕ) (i : PlacementItem) (is : List PlacementItem) → IsIn i is → SpotOf i (spots_from n is)
spot_from n i [] m = absurd m
spot_from n i (j ∷ is) (inl e) = (record { item = j; first = round_up j.align n }, inl refl, sym e)
spot_from n i (j ∷ is) (inr m) = grind (arith, spot_from (round_up j.align n + j.size) i is m)

-- each item has its spot
pub spot_of : (i : PlacementItem) (is : List PlacementItem) → IsIn i is → SpotOf i (spots is)
spot_of i is m = spot_from 0 i (in_order is) (in_in_order i is m)

item_from : (n : ℕ) (s : PlacedItem) (is : List PlacementItem) → IsIn s (spots_from n is) → IsIn s.item is
item_from n s [] m = m
item_from n s (i ∷ is) m = grind (arith, item_from (round_up i.align n + i.size) s is)

-- and each spot is an item's
pub item_of : (s : PlacedItem) (is : List PlacementItem) → IsIn s (spots is) → IsIn s.item is
item_of s is m = from_in_order s.item is (item_from 0 s (in_order is) m)

-- ---- items of different regions and windows

abbrev pub Differ : PlacementItem → PlacementItem → Type 0
Differ i j = is_item j.part j.what i ≡ false

pub same_placed-sym : (v w : Placed) → same_placed v w ≡ same_placed w v
same_placed-sym v w = grind (arith, nat_tests)

pairs_inserted : (R : PlacementItem → PlacementItem → Type 0) → ((i j : PlacementItem) → R i j → R j i) → (i : PlacementItem) (js : List PlacementItem) → Each (R i) js → EachPair R js → EachPair R (inserted i js)
pairs_inserted R turn i [] h k = (tt, tt)
pairs_inserted R turn i (j ∷ js) h k = by_test (stands_before j i) (pairs_inserted R turn i js h.1 k.1)
  where
    of_part : (x : PlacementItem) → (x ≡ i) ⊎ IsIn x js → R j x
    of_part x (inl e) = subst (R j) (sym e) (turn i j h.0)
    of_part x (inr m) = each_in (R j) x js k.0 m

    by_test : (t : Bool) → EachPair R (inserted i js) → EachPair R (cond t (j ∷ inserted i js) (i ∷ j ∷ js))
    by_test t more = grind (arith, each_from (R j) (inserted i js), of_part, from_inserted)

-- what holds of any two items, whichever comes first, holds of them in order
pub pairs_in_order : (R : PlacementItem → PlacementItem → Type 0) → ((i j : PlacementItem) → R i j → R j i) → (is : List PlacementItem) → EachPair R is → EachPair R (in_order is)
pairs_in_order R turn [] h = tt
pairs_in_order R turn (i ∷ is) h = pairs_inserted R turn i (in_order is) (each_from (R i) (in_order is) (λ x m. each_in (R i) x is h.0 (from_in_order x is m))) (pairs_in_order R turn is h.1)

abbrev pub SpotsDiffer : PlacedItem → PlacedItem → Type 0
SpotsDiffer s t = Differ s.item t.item

differ_from : (n : ℕ) (is : List PlacementItem) → EachPair Differ is → EachPair SpotsDiffer (spots_from n is)
differ_from n [] h = tt
differ_from n (i ∷ is) h = (
  each_from (λ t. Differ i t.item) (spots_from (round_up i.align n + i.size) is) (λ t m. each_in (Differ i) t.item is h.0 (item_from (round_up i.align n + i.size) t is m)),
  differ_from (round_up i.align n + i.size) is h.1,
)

pub spots_differ : (is : List PlacementItem) → EachPair Differ is → EachPair SpotsDiffer (spots is)
spots_differ is h = grind (arith, differ_from, pairs_in_order, part_eq-sym, same_placed-sym)

-- where no two are of the same region or window, the look-up of a spot's item finds the spot
pub offset_of_spot : (s : PlacedItem) (ss : List PlacedItem) → EachPair SpotsDiffer ss → IsIn s ss → offset_in ss s.item.part s.item.what ≡ s.first
offset_of_spot s [] h m = absurd m
offset_of_spot s (t ∷ ss) h m = grind (arith, nat_tests, part_self, each_in, offset_of_spot s ss)

-- ---- alignments

max_power : (m n : ℕ) → IsPowerOfTwo m → IsPowerOfTwo n → IsPowerOfTwo (max m n)
max_power m n p q = grind (arith, cases_lt m n)

pub alignment_power : (unit : ℕ) (is : List PlacementItem) → IsPowerOfTwo unit → Each (λ i. IsPowerOfTwo i.align) is → IsPowerOfTwo (alignment unit is)
alignment_power unit [] p h = p
alignment_power unit (i ∷ is) p h = max_power i.align (alignment unit is) h.0 (alignment_power unit is p h.1)

pub unit_below : (unit : ℕ) (is : List PlacementItem) → unit ≤ alignment unit is
unit_below unit [] = omega arith
unit_below unit (i ∷ is) = omega (arith, unit_below unit is)

pub align_below : (unit : ℕ) (i : PlacementItem) (is : List PlacementItem) → IsIn i is → i.align ≤ alignment unit is
align_below unit i [] m = absurd m
align_below unit i (j ∷ is) m = grind (arith, align_below unit i is)

pub unit_power : (pool : Pool) → IsPowerOfTwo (unit_of pool)
unit_power io_pool = (12, refl)
unit_power o = (20, refl)

-- ---- every item can be placed

-- a region's alignment is its size; a window's is at least the unit, and its size whole units
abbrev pub AlignsAs : ℕ → PlacementItem → Placed → Type 0
AlignsAs unit i (a_region n) = i.align ≡ i.size
AlignsAs unit i a_window = (unit ≤ i.align) × (i.size % unit ≡ 0)

pub record IsPlaceable (unit : ℕ) (i : PlacementItem) : Type 0 where
  pub power : IsPowerOfTwo i.align
  pub some : 0 < i.size
  pub aligns : AlignsAs unit i i.what

pub powers : (unit : ℕ) (is : List PlacementItem) → Each (IsPlaceable unit) is → Each (λ i. IsPowerOfTwo i.align) is
powers unit is h = each_from (λ i. IsPowerOfTwo i.align) is (λ i m. (each_in (IsPlaceable unit) i is h m).power)

-- the spots of items that can be placed, before the bus's last end
pub run_of : (unit : ℕ) (is : List PlacementItem) → Each (IsPlaceable unit) is → IsRun 0 (end_from 0 (in_order is)) (spots is)
run_of unit is h = grind (arith, run_in_order, each_from, power_positive, each_in)

pub end_below_need : (unit : ℕ) (is : List PlacementItem) → 0 < unit → end_from 0 (in_order is) ≤ need unit is
end_below_need unit is h = round_up_not_before unit (end_from 0 (in_order is)) h

-- a bus with items has an end above 0
pub some_end : (unit : ℕ) (i : PlacementItem) (is : List PlacementItem) → Each (IsPlaceable unit) is → IsIn i is → 0 < end_from 0 (in_order is)
some_end unit i is h m = grind (arith, spot_of, each_in, run_of)

region_placeable : (unit : ℕ) (p : Part) (r : Region) → IsLawfulRegion r → IsPlaceable unit (region_item p r)
region_placeable unit p r h = record { power = h.size_is_lawful.power; some = power_positive r.size h.size_is_lawful.power; aligns = refl }

window_placeable : (unit : ℕ) (p : Part) (is : List PlacementItem) → IsPowerOfTwo unit → Each (IsPlaceable unit) is → Each (IsPlaceable unit) (window_items unit p is)
window_placeable unit p [] u h = tt
window_placeable unit p (i ∷ is) u h = (record { power = alignment_power unit (i ∷ is) u (powers unit (i ∷ is) h); some = some; aligns = (unit_below unit (i ∷ is), round_up_is_multiple unit (end_from 0 (in_order (i ∷ is)))) }, tt)
  where
    some : 0 < need unit (i ∷ is)
    some = omega (arith, some_end unit i (i ∷ is) h (inl refl), end_below_need unit (i ∷ is) (power_positive unit u))

module _ (b : Board) (a : Apertures) (pool : Pool) (lawful : HasLawfulDecls b) where
  row_placeable : (behind : Path → List PlacementItem) (p : Path) (d : Decl) → IsLawfulDecl d → Each (IsPlaceable (unit_of pool)) (behind p) → Each (IsPlaceable (unit_of pool)) (items_of b a pool behind (record { path = p; decl = d }))
  row_placeable behind p (endpoint d) h k = each_from (IsPlaceable (unit_of pool)) (region_items b a pool p d) (λ i m. of_region i (from_map (region_item (last_part p)) i (filter (λ (r : Region). same_pool (pool_of a (bridges_above b p) r.kind) pool) d.regions) m))
    where
      of_region : (i : PlacementItem) → (r : Region) × IsIn r (filter (λ (s : Region). same_pool (pool_of a (bridges_above b p) s.kind) pool) d.regions) × (i ≡ region_item (last_part p) r) → IsPlaceable (unit_of pool) i
      of_region i (r, m, e) =
          grind (arith, from_filter, region_placeable (unit_of pool) (last_part p) r, each_in IsLawfulRegion r d.regions h.regions.each)
  row_placeable behind p (bridge d) h k = window_placeable (unit_of pool) (last_part p) (behind p) (unit_power pool) k

  within_placeable : (n : ℕ) (bus : Path) → Each (IsPlaceable (unit_of pool)) (items_within b a pool n bus)
  within_placeable zero bus = tt
  within_placeable (suc n) bus = each_from (IsPlaceable (unit_of pool)) (items_within b a pool (suc n) bus) (λ i m. of_row i (from_flat_map (items_of b a pool (items_within b a pool n)) i (rows_on b bus) m) (within_placeable n))
    where
      of_row : (i : PlacementItem) → (r : Row) × IsIn r (rows_on b bus) × IsIn i (items_of b a pool (items_within b a pool n) r) → ((p : Path) → Each (IsPlaceable (unit_of pool)) (items_within b a pool n p)) → IsPlaceable (unit_of pool) i
      of_row i (r, m, k) more =
          let there : IsIn r b = (from_filter (λ (s : Row). path_eq (parent s.path) bus) r b m).0 in
          each_in (IsPlaceable (unit_of pool)) i (items_of b a pool (items_within b a pool n) r) (row_placeable (items_within b a pool n) r.path r.decl (each_in (λ (s : Row). IsLawfulDecl s.decl) r b lawful there) (more r.path)) k

  pub items_placeable : (bus : Path) → Each (IsPlaceable (unit_of pool)) (items_on b a pool bus)
  items_placeable bus = within_placeable 16 bus

-- ---- where the items of a bus come from

-- the items of one function of a bus
abbrev pub items_for : Board → Apertures → Pool → Path → Decl → List PlacementItem
items_for b a pool p d = items_of b a pool (items_on b a pool) (record { path = p; decl = d })

pub region_of_item : (b : Board) (a : Apertures) (pool : Pool) (p : Path) (d : Endpoint) (i : PlacementItem) → IsIn i (region_items b a pool p d)
    → (r : Region) × IsIn r d.regions × (same_pool (pool_of a (bridges_above b p) r.kind) pool ≡ true) × (i ≡ region_item (last_part p) r)
region_of_item b a pool p d i m = grind (arith, from_map, from_filter)

pub part_of_item : (b : Board) (a : Apertures) (pool : Pool) (p : Path) (d : Decl) (i : PlacementItem) → IsIn i (items_for b a pool p d) → i.part ≡ last_part p
part_of_item b a pool p (endpoint d) i m = ap (λ (k : PlacementItem). k.part) (region_of_item b a pool p d i m).3
part_of_item b a pool p (bridge d) i m = grind arith

-- the function of the board whose item it is
pub record Origin (b : Board) (a : Apertures) (pool : Pool) (bus : Path) (i : PlacementItem) : Type 0 where
  pub row : Row
  pub there : IsIn row b
  pub path_is : row.path ≡ bus ++ i.part ∷ []
  pub item : IsIn i (items_for b a pool row.path row.decl)

pub on_bus : (b : Board) (bus : Path) (r : Row) → Each (λ s. IsPath s.path) b → IsIn r (rows_on b bus) → IsIn r b × (r.path ≡ bus ++ last_part r.path ∷ [])
on_bus b bus r paths m = grind (arith, from_filter, snoc r.path, each_in, path_same (parent r.path) bus)

module _ (b : Board) (a : Apertures) (pool : Pool) (board : IsBoard b) where
  pub origin : (bus : Path) (i : PlacementItem) → IsIn i (items_on b a pool bus) → Origin b a pool bus i
  origin bus i m =
      grind (arith, from_flat_map (items_of b a pool (items_on b a pool)) i (rows_on b bus) (subst (IsIn i) (bus_items_are_bars_and_windows b board a pool bus) m), bus_items_are_bars_and_windows b board a pool bus, on_bus b bus, region_of_item)

  -- and the items of each function of the board stand on its bus
  pub on_own_bus : (r : Row) → IsIn r b → (i : PlacementItem) → IsIn i (items_for b a pool r.path r.decl) → IsIn i (items_on b a pool (parent r.path))
  on_own_bus r m i k =
      grind (arith, bus_items_are_bars_and_windows b board a pool (parent r.path), in_flat_map (items_of b a pool (items_on b a pool)) r i (rows_on b (parent r.path)), in_filter, path_self (parent r.path))

  abbrev PartsDiffer : Row → Row → Type 0
  PartsDiffer r s = part_eq (last_part r.path) (last_part s.path) ≡ false

  parts_differ : (bus : Path) → EachPair PartsDiffer (rows_on b bus)
  parts_differ bus = search (rules, pairs_weaker, pairs_filter, on_bus, part_same, not_before_itself)

  -- what holds of items of different parts, and of the regions of one endpoint, holds of any two items of a bus
  module _ (R : PlacementItem → PlacementItem → Type 0) (parts : (i j : PlacementItem) → part_eq i.part j.part ≡ false → R i j) (regions : (p : Part) (r s : Region) → r.index < s.index → R (region_item p r) (region_item p s)) where
    of_one : (p : Path) (d : Decl) → IsLawfulDecl d → EachPair R (items_for b a pool p d)
    of_one p d h = grind (arith, pairs_of_map, pairs_weaker, pairs_filter)

    pub items_pairs : HasLawfulDecls b → (bus : Path) → EachPair R (items_on b a pool bus)
    items_pairs lawful bus =
        subst (EachPair R) (sym (bus_items_are_bars_and_windows b board a pool bus))
        (pairs_flat_map PartsDiffer R (items_of b a pool (items_on b a pool)) (rows_on b bus) (parts_differ bus)
        (λ r m. of_one r.path r.decl (each_in (λ (s : Row). IsLawfulDecl s.decl) r b lawful (from_filter (λ (s : Row). path_eq (parent s.path) bus) r b m).0))
        (λ r s m k other i j h l. parts i j (ap₂ part_eq (part_of_item b a pool r.path r.decl i h) (part_of_item b a pool s.path s.decl j l) ∙ other)))

  -- no two items of a bus are of the same region or window
  pub items_differ : HasLawfulDecls b → (bus : Path) → EachPair Differ (items_on b a pool bus)
  items_differ lawful bus = grind (arith, items_pairs Differ, nat_tests, part_self)
