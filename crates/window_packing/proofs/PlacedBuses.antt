-- Where the buses, the regions and the windows of a placed pool stand: all within 2^63, and each found by its alignment.
use Rattle.std.{proofs.{Common.{◌≡◌, ℕ, zero, suc, ◌+◌, ◌-◌, ◌^◌, ◌≤◌, ◌<◌, ◌⊎◌, inl, inr, true, false, List, [], ◌∷◌, ◌++◌, map, length, Option, MatchOption, refl, sym, ap, ◌∙◌, subst, arith}, lemmas.Bool.{and_parts, Decides.nat_tests}, Math.Nat.div-mul-le_self}, specs.Prelude.{filter, flat_map, IsTrue}}
use Rattle.lists.{specs.Elements.{Each, EachPair, IsIn}, proofs.Members.{each_in, each_from, pair_in}}
use Rattle.model_registers.specs.{Apertures.{Aperture, IsLawfulApertures, Apertures}, Declarations.{Endpoint, Region}}
use Rattle.model_board.{specs.{Paths.{Part, Path, part_eq, parent, last_part, IsPath}, Board.{endpoint, is_bridge, Row, Board, IsBoard}, Lawful.{IsLawfulDecl, HasLawfulDecls}}, proofs.{PathOrder.part_same, PathEnds.{snoc, length_snoc}, Rows.same_row}}
use Rattle.model_set_up.{specs.{Pools.{Pool, unit_of, aperture_of}, Placement.{Placed, a_region, a_window, same_placed, PlacementItem, PlacedItem, is_item, stands_before, in_order, round_up, need, alignment, spots_from, spots, offset_in, items_on, fits, offset_on, bus_first}, Layout.{LayoutRow, bus_rows, pool_rows}, Extents.IsInside, PlacementLaws.window_row}, proofs.{Packing.unit_positive, Items.{item_of, some_end, end_below_need, items_placeable, region_of_item, Origin, origin}, ItemOrder.{Strictly, items_strict}, Nesting.{HasItems, bus_first-snoc, window_of, bridge_of_bus}, LawfulPlacement.{row_in, pool_lawful}, DeclaredRows.has_window_row}}
use Rattle.window_packing.proofs.{BridgesAbove.some_path, BusItems.{items_align, alignment_bounds}, SpotSearch.AreStrict}

-- ---- spots in strict order

strict_each : (i : PlacementItem) (n : ℕ) (is : List PlacementItem) → Each (Strictly i) is → Each (λ (t : PlacedItem). IsTrue (stands_before i t.item)) (spots_from n is)
strict_each i n [] h = tt
strict_each i n (j ∷ is) h = (h.0, strict_each i (round_up j.align n + j.size) is h.1)

strict_from : (n : ℕ) (is : List PlacementItem) → EachPair Strictly is → AreStrict (spots_from n is)
strict_from n [] h = tt
strict_from n (i ∷ is) h = (strict_each i (round_up i.align n + i.size) is h.0, strict_from (round_up i.align n + i.size) is h.1)

-- what is found, or 0
offset_cases : (ss : List PlacedItem) (p : Part) (w : Placed) → (offset_in ss p w ≡ 0) ⊎ ((s : PlacedItem) × IsIn s ss × (offset_in ss p w ≡ s.first))
offset_cases [] p w = inl refl
offset_cases (s ∷ ss) p w = grind (arith, offset_cases ss p w)

-- no address of a pool is above this
abbrev pub highest : ℕ
highest = 2 ^ 63 + 2 ^ 40

same_what : (v w : Placed) → same_placed v w ≡ true → v ≡ w
same_what v w h = grind (arith, nat_tests)

limit : (a : Apertures) (pool : Pool) → IsLawfulApertures a → MatchOption (aperture_of a pool) (Unit {0}) (λ ap. ap.last + 1 ≤ 2 ^ 63)
limit a pool h = grind arith

begins : (a : Apertures) (pool : Pool) → IsLawfulApertures a → MatchOption (aperture_of a pool) (Unit {0}) (λ ap. ap.first < 2 ^ 63)
begins a pool h = grind arith

inside_limit : (o : Option Aperture) (row : LayoutRow) → MatchOption o (Unit {0}) (λ ap. ap.last + 1 ≤ 2 ^ 63) → MatchOption o ⊥ (λ ap. IsInside ap.first (ap.last + 1) row.first row.size) → row.first + row.size ≤ 2 ^ 63
inside_limit o row l h = grind arith

round_up_below : (n m : ℕ) → 0 < n → round_up n m ≤ m + n
round_up_below n m some = let q = div-mul-le_self (m + (n - 1)) n in omega (arith, q)

module _ (b : Board) (a : Apertures) (pool : Pool) (board : IsBoard b) (lawful : HasLawfulDecls b) where
  pub spots_strict : (bus : Path) → AreStrict (spots (items_on b a pool bus))
  spots_strict bus = strict_from 0 (in_order (items_on b a pool bus)) (items_strict b a pool bus board lawful)

  split : (r : Row) → IsIn r b → r.path ≡ parent r.path ++ last_part r.path ∷ []
  split r m = snoc r.path (some_path b board r m)

  -- ---- the alignment of what is looked for

  pub window_align : (r : Row) → IsIn r b → Each (λ s. IsTrue (is_item (last_part r.path) a_window s.item) → s.item.align ≡ alignment (unit_of pool) (items_on b a pool r.path)) (spots (items_on b a pool (parent r.path)))
  window_align r m = each_from (λ s. IsTrue (is_item (last_part r.path) a_window s.item) → s.item.align ≡ alignment (unit_of pool) (items_on b a pool r.path)) (spots (items_on b a pool (parent r.path))) (λ s k h. of_spot s k (and_parts (part_eq s.item.part (last_part r.path)) (same_placed s.item.what a_window) h))
    where
      of_spot : (s : PlacedItem) → IsIn s (spots (items_on b a pool (parent r.path))) → (part_eq s.item.part (last_part r.path) ≡ true) × (same_placed s.item.what a_window ≡ true) → s.item.align ≡ alignment (unit_of pool) (items_on b a pool r.path)
      of_spot s k h =
          let w = window_of b a pool board lawful (parent r.path) s k (same_what s.item.what a_window h.1) in
          let path : parent r.path ++ s.item.part ∷ [] ≡ r.path = ap (λ (p : Part). parent r.path ++ p ∷ []) (part_same s.item.part (last_part r.path) h.0) ∙ sym (split r m) in
          ap (λ (t : PlacedItem). t.item.align) (sym w.1) ∙ w.0.align_is ∙ ap (λ (p : Path). alignment (unit_of pool) (items_on b a pool p)) path

  one_region : (d : Endpoint) → IsLawfulDecl (endpoint d) → (x y : Region) → IsIn x d.regions → IsIn y d.regions → x.index ≡ y.index → x ≡ y
  one_region d h x y m k e = grind (arith, pair_in)

  pub region_align : (r : Row) → IsIn r b → (d : Endpoint) → r.decl ≡ endpoint d → (k : Region) → IsIn k d.regions
      → Each (λ s. IsTrue (is_item (last_part r.path) (a_region k.index) s.item) → s.item.align ≡ k.size) (spots (items_on b a pool (parent r.path)))
  region_align r m d decl k on = each_from (λ s. IsTrue (is_item (last_part r.path) (a_region k.index) s.item) → s.item.align ≡ k.size) (spots (items_on b a pool (parent r.path)))
      (λ s l h. of_spot s (and_parts (part_eq s.item.part (last_part r.path)) (same_placed s.item.what (a_region k.index)) h) (origin b a pool board (parent r.path) s.item (item_of s (items_on b a pool (parent r.path)) l)))
    where
      of_spot : (s : PlacedItem) → (part_eq s.item.part (last_part r.path) ≡ true) × (same_placed s.item.what (a_region k.index) ≡ true) → Origin b a pool (parent r.path) s.item → s.item.align ≡ k.size
      of_spot s h o = grind (arith, part_same, split, same_row, region_of_item, same_what, one_region, each_in)

  -- ---- addresses

  module _ (apertures : IsLawfulApertures a) (fit : IsTrue (fits b a pool)) where
    row_bound : (row : LayoutRow) → IsIn row (pool_rows b a pool) → row.pool ≡ pool → row.first + row.size ≤ 2 ^ 63
    row_bound row m e = grind (arith, pool_lawful, each_in, inside_limit, limit)

    -- a spot ends at 2^63 or below
    pub spot_bound : (bus : Path) (s : PlacedItem) → IsIn s (spots (items_on b a pool bus)) → bus_first b a pool bus + s.first + s.item.size ≤ 2 ^ 63
    spot_bound bus s m = row_bound (record { path = bus ++ s.item.part ∷ []; what = s.item.what; pool = pool; first = bus_first b a pool bus + s.first; size = s.item.size }) (row_in b a pool board lawful bus s m) refl

    -- and so does a window
    pub window_bound : (p : Path) → 0 < length p → HasItems b a pool p → (0 < need (unit_of pool) (items_on b a pool p)) × (bus_first b a pool p + need (unit_of pool) (items_on b a pool p) ≤ 2 ^ 63)
    window_bound p some has = (
      omega (arith, some_end (unit_of pool) has.0 (items_on b a pool p) (items_placeable b a pool lawful p) has.1, end_below_need (unit_of pool) (items_on b a pool p) (unit_positive pool)),
      row_bound (window_row b a pool p) (has_window_row b a pool board lawful p some has) refl,
    )

    pub found_bound : (bus : Path) (p : Part) (w : Placed) → bus_first b a pool bus ≤ highest → bus_first b a pool bus + offset_on b a pool bus p w ≤ highest
    found_bound bus p w h = by_cases (offset_cases (spots (items_on b a pool bus)) p w)
      where
        by_cases : (offset_on b a pool bus p w ≡ 0) ⊎ ((s : PlacedItem) × IsIn s (spots (items_on b a pool bus)) × (offset_on b a pool bus p w ≡ s.first)) → bus_first b a pool bus + offset_on b a pool bus p w ≤ highest
        by_cases (inl e) = omega (arith, h, e)
        by_cases (inr (s, m, e)) = omega (arith, e, spot_bound bus s m)

    pub next_first : (r : Row) → IsIn r b → bus_first b a pool r.path ≡ bus_first b a pool (parent r.path) + offset_on b a pool (parent r.path) (last_part r.path) a_window
    next_first r m = ap (bus_first b a pool) (split r m) ∙ bus_first-snoc b a pool (parent r.path) (last_part r.path)

    below : (n : ℕ) (p : Path) → length p ≤ n → bus_first b a pool p ≤ highest
    below n [] h = grind (arith, begins, alignment_bounds, items_align, round_up_below)
    below zero (x ∷ p) h = absurd (omega arith)
    below (suc n) (x ∷ p) h =
        let some : 0 < length (x ∷ p) = omega arith in
        let cut : x ∷ p ≡ parent (x ∷ p) ++ last_part (x ∷ p) ∷ [] = snoc (x ∷ p) some in
        let shorter : length (parent (x ∷ p)) ≤ n = omega (arith, ap length cut, length_snoc (parent (x ∷ p)) (last_part (x ∷ p)), h) in
        let first : bus_first b a pool (x ∷ p) ≡ bus_first b a pool (parent (x ∷ p)) + offset_on b a pool (parent (x ∷ p)) (last_part (x ∷ p)) a_window = ap (bus_first b a pool) cut ∙ bus_first-snoc b a pool (parent (x ∷ p)) (last_part (x ∷ p)) in
        omega (arith, first, found_bound (parent (x ∷ p)) (last_part (x ∷ p)) a_window (below n (parent (x ∷ p)) shorter))

    pub first_bound : (p : Path) → bus_first b a pool p ≤ highest
    first_bound p = below (length p) p (omega arith)

  -- ---- what stands behind an endpoint, and how deep

  pub none_behind : (r : Row) → IsIn r b → is_bridge r.decl ≡ false → items_on b a pool r.path ≡ []
  none_behind r m plain = by_items (items_on b a pool r.path) refl
    where
      by_items : (is : List PlacementItem) → items_on b a pool r.path ≡ is → is ≡ []
      by_items [] e = refl
      by_items (i ∷ is) e =
          let f = bridge_of_bus b a pool board lawful r.path (i, subst (IsIn i) (sym e) (inl refl)) (some_path b board r m) in
          let row : f.0 ≡ r = same_row b board f.0 r f.1 m f.2 in
          let clash : true ≡ false = sym f.3 ∙ ap (λ (x : Row). is_bridge x.decl) row ∙ plain in cc

  pub depth : (bus : Path) (s : PlacedItem) → IsIn s (spots (items_on b a pool bus)) → length bus < 16
  depth bus s m =
      let o : Origin b a pool bus s.item = origin b a pool board bus s.item (item_of s (items_on b a pool bus) m) in
      let few = (each_in (λ (x : Row). IsPath x.path) o.row b board.paths o.there).few in
      omega (arith, few, ap length o.path_is, length_snoc bus s.item.part)

  all_buses : (rs : Board) → ((r : Row) → IsIn r rs → IsIn r b) → flat_map (bus_rows b a pool) (map (λ (r : Row). r.path) rs) ≡ flat_map (bus_rows b a pool) (map (λ (r : Row). r.path) (filter (λ r. is_bridge r.decl) rs))
  all_buses [] h = refl
  all_buses (r ∷ rs) h = grind (arith, none_behind, all_buses rs)

  -- the rows of all functions' buses are those of the bridges' buses
  pub rows_by_bus : flat_map (bus_rows b a pool) ([] ∷ map (λ (r : Row). r.path) b) ≡ pool_rows b a pool
  rows_by_bus = ap (λ xs. bus_rows b a pool [] ++ xs) (all_buses b (λ r m. m))
