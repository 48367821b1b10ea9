-- What stands on a bus of a board can be packed, in any order, and what a function adds is what it has there.
use Rattle.std.{proofs.{Common.{◌≡◌, ℕ, zero, suc, ◌<◌, ◌≤◌, ◌^◌, List, [], ◌∷◌, refl, sym, ap, ◌∙◌, arith}, lemmas.List.Sorted.IsPermutation-trans}, specs.List.Sorted.IsPermutation}
use Rattle.lists.{specs.Elements.{Each, IsIn}, proofs.{EachLemmas.each_permutation, Members.{each_in, each_from, from_flat_map, from_filter}}}
use Rattle.model_registers.specs.{Declarations.{Kind, greatest_size}, Apertures.Apertures}
use Rattle.model_board.specs.{Paths.{Part, Path, path_eq, parent}, Board.{Row, Decl, Board, rows_on, IsBoard}, Lawful.{IsLawfulDecl, HasLawfulDecls}}
use Rattle.model_set_up.{specs.{Pools.{Pool, unit_of, bridges_above}, Placement.{PlacementItem, inserted, in_order, end_from, spots_from, alignment, window_items, items_of, items_within, items_on}, OrderLaws.IsOrderOf}, proofs.{Packing.power_positive, Items.{region_of_item, unit_below}, ItemOrder.{order_is_sorted, one_order}}}
use Rattle.window_packing.{specs.Packs.{PackedBus, pack_items, pack_of, HasLawfulAlign, IsPackable, window_of, own_items}, proofs.ItemRanks.alignment-in_order}

-- ---- alignments

greatest : (k : Kind) → greatest_size k ≤ 2 ^ 40
greatest k = grind arith

alignment_high : (unit : ℕ) (is : List PlacementItem) → unit ≤ 2 ^ 40 → Each HasLawfulAlign is → alignment unit is ≤ 2 ^ 40
alignment_high unit [] u h = u
alignment_high unit (i ∷ is) u h = let high : i.align ≤ 2 ^ 40 = h.0.1 in omega (arith, high, alignment_high unit is u h.1)

pub alignment_bounds : (pool : Pool) (is : List PlacementItem) → Each HasLawfulAlign is → (0 < alignment (unit_of pool) is) × (alignment (unit_of pool) is ≤ 2 ^ 40)
alignment_bounds pool is h = grind (arith, unit_below, alignment_high)

window_aligns : (pool : Pool) (p : Part) (is : List PlacementItem) → Each HasLawfulAlign is → Each HasLawfulAlign (window_items (unit_of pool) p is)
window_aligns pool p is h = grind (arith, alignment_bounds)

module _ (b : Board) (a : Apertures) (pool : Pool) (lawful : HasLawfulDecls b) where
  row_aligns : (behind : Path → List PlacementItem) (p : Path) (d : Decl) → IsLawfulDecl d → Each HasLawfulAlign (behind p) → Each HasLawfulAlign (items_of b a pool behind (record { path = p; decl = d }))
  row_aligns behind p d h k = grind (arith, each_from, region_of_item, each_in, power_positive, greatest, window_aligns)

  within_aligns : (n : ℕ) (bus : Path) → Each HasLawfulAlign (items_within b a pool n bus)
  within_aligns zero bus = tt
  within_aligns (suc n) bus = each_from HasLawfulAlign (items_within b a pool (suc n) bus) (λ i m. of_row i (from_flat_map (items_of b a pool (items_within b a pool n)) i (rows_on b bus) m) (within_aligns n))
    where
      of_row : (i : PlacementItem) → (r : Row) × IsIn r (rows_on b bus) × IsIn i (items_of b a pool (items_within b a pool n) r) → ((p : Path) → Each HasLawfulAlign (items_within b a pool n p)) → HasLawfulAlign i
      of_row i (r, m, k) more =
          let there : IsIn r b = (from_filter (λ (s : Row). path_eq (parent s.path) bus) r b m).0 in
          each_in HasLawfulAlign i (items_of b a pool (items_within b a pool n) r) (row_aligns (items_within b a pool n) r.path r.decl (each_in (λ (s : Row). IsLawfulDecl s.decl) r b lawful there) (more r.path)) k

  pub items_align : (bus : Path) → Each HasLawfulAlign (items_on b a pool bus)
  items_align bus = within_aligns 16 bus

  -- ---- the items of a bus, gathered in any order

  module _ (board : IsBoard b) (bus : Path) (is : List PlacementItem) (same : IsPermutation (items_on b a pool bus) is) where
    sorts : (js : List PlacementItem) → IsOrderOf is js → js ≡ in_order (items_on b a pool bus)
    sorts js h = one_order b a pool bus board lawful js (record { same = IsPermutation-trans (items_on b a pool bus) is js same h.same; sorted = h.sorted })

    same_order : in_order is ≡ in_order (items_on b a pool bus)
    same_order = sorts (in_order is) (order_is_sorted is)

    pub packable : IsPackable is
    packable = record { order = λ js h. sorts js h ∙ sym same_order; aligns = each_permutation HasLawfulAlign (items_on b a pool bus) is same (items_align bus) }

    pub pack_is : pack_items (unit_of pool) is ≡ pack_of b a pool bus
    pack_is = grind (arith, same_order, alignment-in_order)

    pub end_is : end_from 0 (in_order is) ≡ end_from 0 (in_order (items_on b a pool bus))
    end_is = ap (end_from 0) same_order

-- ---- what a function has on its own bus

window_inserted : (unit : ℕ) (p : Part) (pack : PackedBus) (s : PlacementItem) (i : PlacementItem) (js : List PlacementItem)
    → window_of unit p pack (spots_from 0 (inserted i js)) ≡ window_of unit p pack (record { item = s; first = 0 } ∷ [])
window_inserted unit p pack s i [] = refl
window_inserted unit p pack s i (j ∷ js) = grind arith

pub own_is : (b : Board) (a : Apertures) (pool : Pool) (p : Path) (d : Decl) → own_items a (bridges_above b p) pool p d (pack_of b a pool p) ≡ items_of b a pool (items_on b a pool) (record { path = p; decl = d })
own_is b a pool p d = grind (arith, window_inserted)
