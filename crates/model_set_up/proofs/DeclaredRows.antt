-- The rows of compact placement are those of the regions and windows that the board declares, one each.
use Rattle.std.{proofs.{lemmas.{Grind.common_steps, Bool.{and_parts, Decides.nat_tests}}, Common.{◌≡◌, ℕ, ◌+◌, ◌<◌, inl, Bool, true, false, ◌&&◌, List, [], ◌∷◌, ◌++◌, length, refl, sym, ap, ◌∙◌, subst, arith, rules}}, specs.Prelude.filter}
use Rattle.lists.{specs.Elements.{Each, EachPair, IsIn}, proofs.Members.{each_in, each_from, from_map, in_map, in_filter, pairs_weaker, pairs_flat_map, none_pass, one_passes, pairs_of_map}}
use Rattle.model_registers.specs.{Declarations.{Endpoint, Region}, Apertures.Apertures}
use Rattle.model_board.{specs.{Board.{Board, Row, Decl, endpoint, bridge, IsBoard}, Paths.{Part, Path, path_eq, parent, last_part, IsPath}, Lawful.HasLawfulDecls}, proofs.{PathOrder.path_same, PathEnds.{snoc, path_self, parent_snoc, path_eq-snoc, path_eq-sym}}}
use Rattle.model_set_up.{specs.{Pools.{Pool, same_pool, bridges_above, pool_of}, Placement.{Placed, a_region, a_window, same_placed, PlacementItem, PlacedItem, spots, region_item, items_on, bus_first, region_first}, Layout.{LayoutRow, row_of, bus_rows, buses, pool_rows}, PlacementLaws.{pool_at, region_row, window_row, window_rows, rows_at, HasOwnRows, IsRowFor, RowsAreDeclared}}, proofs.{PlacedApart.pool_is, Items.{spot_of, item_of, spots_differ, same_placed-sym, items_for, region_of_item, origin, on_own_bus, items_differ}, Nesting.{HasItems, WindowOn, offset_of, window_of, window_above}, LawfulPlacement.{buses_differ, pool_self, OnBus, on_bus_row, row_in}}}

abbrev pub row_with : Pool → Path → Placed → ℕ → ℕ → LayoutRow
row_with pool p w n k = record { path = p; what = w; pool = pool; first = n; size = k }

-- the row of a region, were it in this pool
abbrev pub row_in_pool : Board → Apertures → Pool → Path → Region → LayoutRow
row_in_pool b a pool p k = row_with pool p (a_region k.index) (region_first b a pool p k.index) k.size

-- ---- no two rows of a pool stand for one region or window

abbrev pub RowsDiffer : LayoutRow → LayoutRow → Type 0
RowsDiffer r s = (path_eq r.path s.path && same_placed r.what s.what) ≡ false

placed_self : (w : Placed) → same_placed w w ≡ true
placed_self w = grind (arith, nat_tests)

module _ (b : Board) (a : Apertures) (pool : Pool) (board : IsBoard b) (lawful : HasLawfulDecls b) where
  abbrev the_row : Path → PlacedItem → LayoutRow
  the_row bus s = row_of pool bus (bus_first b a pool bus) s

  bus_rows_differ : (bus : Path) → EachPair RowsDiffer (bus_rows b a pool bus)
  bus_rows_differ bus = search (rules, pairs_of_map, pairs_weaker, spots_differ, items_differ, path_eq-snoc)

  pub rows_differ : EachPair RowsDiffer (pool_rows b a pool)
  rows_differ =
      pairs_flat_map (λ x y. path_eq x y ≡ false) RowsDiffer (bus_rows b a pool) (buses b) (buses_differ b board) (λ bus m. bus_rows_differ bus)
      (λ x y m k other r s l n. of_two x y other r s (from_map (row_of pool x (bus_first b a pool x)) r (spots (items_on b a pool x)) l) (from_map (row_of pool y (bus_first b a pool y)) s (spots (items_on b a pool y)) n) (path_eq r.path s.path) refl)
    where
      of_two : (x y : Path) → path_eq x y ≡ false → (r s : LayoutRow) → (t : PlacedItem) × IsIn t (spots (items_on b a pool x)) × (r ≡ the_row x t) → (u : PlacedItem) × IsIn u (spots (items_on b a pool y)) × (s ≡ the_row y u)
          → (v : Bool) → path_eq r.path s.path ≡ v → RowsDiffer r s
      of_two x y other r s (t, m, e) (u, k, f) false apart = rw apart
      of_two x y other r s (t, m, e) (u, k, f) true meet = grind (arith, nat_tests, common_steps, parent_snoc, path_same, path_self)

  -- a row is the only one for its region or window
  pub only_row : (x : LayoutRow) → IsIn x (pool_rows b a pool) → filter (λ r. path_eq r.path x.path && same_placed r.what x.what) (pool_rows b a pool) ≡ x ∷ []
  only_row x m = grind (arith, one_passes, rows_differ, path_eq-sym, same_placed-sym, path_self, placed_self)

  -- ---- the row at a spot

  pub region_row_at : (p : Path) (k : Region) (bus : Path) (s : PlacedItem) → IsIn s (spots (items_on b a pool bus)) → p ≡ bus ++ s.item.part ∷ [] → s.item ≡ region_item (last_part p) k
      → the_row bus s ≡ row_in_pool b a pool p k
  region_row_at p k bus s m path item = grind (arith, parent_snoc bus s.item.part, offset_of b a pool board lawful bus s m)

  pub window_row_at : (p : Path) (bus : Path) (s : PlacedItem) → IsIn s (spots (items_on b a pool bus)) → p ≡ bus ++ s.item.part ∷ [] → s.item.what ≡ a_window → the_row bus s ≡ window_row b a pool p
  window_row_at p bus s m path what = grind (arith, window_of b a pool board lawful bus s m what)

  -- ---- each region and each window has its row

  pub has_region_row : (r : Row) → IsIn r b → (d : Endpoint) → r.decl ≡ endpoint d → (k : Region) → IsIn k d.regions → same_pool (pool_at b a r.path k) pool ≡ true
      → IsIn (row_in_pool b a pool r.path k) (pool_rows b a pool)
  has_region_row r m d decl k l same = by_spot (spot_of (region_item (last_part r.path) k) (items_on b a pool (parent r.path)) on)
    where
      keeps : Region → Bool
      keeps x = same_pool (pool_of a (bridges_above b r.path) x.kind) pool

      on : IsIn (region_item (last_part r.path) k) (items_on b a pool (parent r.path))
      on = on_own_bus b a pool board r m (region_item (last_part r.path) k) (rw decl (in_map (region_item (last_part r.path)) k (filter keeps d.regions) (in_filter keeps k d.regions l same)))

      by_spot : (s : PlacedItem) × IsIn s (spots (items_on b a pool (parent r.path))) × (s.item ≡ region_item (last_part r.path) k)
          → IsIn (row_in_pool b a pool r.path k) (pool_rows b a pool)
      by_spot (s, n, item) =
          let split : r.path ≡ parent r.path ++ last_part r.path ∷ [] = snoc r.path (each_in (λ (x : Row). IsPath x.path) r b board.paths m).some in
          let path : r.path ≡ parent r.path ++ s.item.part ∷ [] = split ∙ ap (λ (i : PlacementItem). parent r.path ++ i.part ∷ []) (sym item) in
          subst (λ (x : LayoutRow). IsIn x (pool_rows b a pool)) (region_row_at r.path k (parent r.path) s n path item) (row_in b a pool board lawful (parent r.path) s n)

  pub has_window_row : (p : Path) → 0 < length p → HasItems b a pool p → IsIn (window_row b a pool p) (pool_rows b a pool)
  has_window_row p some has =
      let w : WindowOn b a pool (parent p) (last_part p) = window_above b a pool board lawful p has some in
      let path : p ≡ parent p ++ w.spot.item.part ∷ [] = snoc p some ∙ ap (λ (x : Part). parent p ++ x ∷ []) (sym w.part_is) in
      subst (λ (x : LayoutRow). IsIn x (pool_rows b a pool)) (window_row_at p (parent p) w.spot w.on path w.what_is) (row_in b a pool board lawful (parent p) w.spot w.on)

  -- a row that stands for a bridge's window has items behind it
  window_has : (p : Path) (x : LayoutRow) → IsIn x (pool_rows b a pool) → (path_eq x.path p && same_placed x.what a_window) ≡ true → HasItems b a pool p
  window_has p x m h = of_spot (on_bus_row b a pool x m)
    where
      is_window : (w : Placed) → same_placed w a_window ≡ true → w ≡ a_window
      is_window w k = grind arith

      of_spot : OnBus b a pool x → HasItems b a pool p
      of_spot o =
          let t = and_parts (path_eq x.path p) (same_placed x.what a_window) h in
          let what : o.spot.item.what ≡ a_window = ap (λ (r : LayoutRow). r.what) (sym o.row_is) ∙ is_window x.what t.1 in
          let path : o.bus ++ o.spot.item.part ∷ [] ≡ p = ap (λ (r : LayoutRow). r.path) (sym o.row_is) ∙ path_same x.path p t.0 in
          subst (HasItems b a pool) path (window_of b a pool board lawful o.bus o.spot o.on what).0.behind

  own_window_rows : (p : Path) → 0 < length p → rows_at b a pool p a_window ≡ window_rows b a pool p (items_on b a pool p)
  own_window_rows p some = by_items (items_on b a pool p) refl
    where
      test : LayoutRow → Bool
      test r = path_eq r.path p && same_placed r.what a_window

      by_items : (is : List PlacementItem) → items_on b a pool p ≡ is → filter test (pool_rows b a pool) ≡ window_rows b a pool p is
      by_items [] none = grind (arith, none_pass, window_has)
      by_items (i ∷ is) e = only_row (window_row b a pool p) (has_window_row p some (i, subst (IsIn i) (sym e) (inl refl)))

  -- ---- and no other row stands

  row_for : (p : Path) (d : Decl) (x : LayoutRow) (bus : Path) (s : PlacedItem) → IsIn s (spots (items_on b a pool bus)) → x ≡ the_row bus s → p ≡ bus ++ s.item.part ∷ [] → IsIn s.item (items_for b a pool p d) → IsRowFor b a pool x p d
  row_for p (endpoint d) x bus s m row path item =
      let k = region_of_item b a pool p d s.item item in
      let own : pool_at b a p k.0 ≡ pool = pool_is (pool_at b a p k.0) pool k.2 in
      let here : x ≡ row_in_pool b a pool p k.0 = row ∙ region_row_at p k.0 bus s m path k.3 in
      (k.0, k.1, own, subst (λ (q : Pool). x ≡ row_in_pool b a q p k.0) (sym own) here)
  row_for p (bridge d) x bus s m row path item = grind (arith, window_row_at)

  no_others : Each (λ x. (r : Row) × IsIn r b × IsRowFor b a pool x r.path r.decl) (pool_rows b a pool)
  no_others = each_from (λ x. (r : Row) × IsIn r b × IsRowFor b a pool x r.path r.decl) (pool_rows b a pool) (λ x m. of_spot x (on_bus_row b a pool x m))
    where
      of_spot : (x : LayoutRow) → OnBus b a pool x → (r : Row) × IsIn r b × IsRowFor b a pool x r.path r.decl
      of_spot x o =
          grind (arith, origin b a pool board o.bus o.spot.item (item_of o.spot (items_on b a pool o.bus) o.on), item_of o.spot (items_on b a pool o.bus) o.on, row_for)

pub one_row_per_region_or_window : RowsAreDeclared
one_row_per_region_or_window b a board lawful = record {
  each_has = each_from (λ r. HasOwnRows b a r.path r.decl) b (λ r m. of_row r m r.decl refl);
  no_others = λ pool. no_others b a pool board lawful;
}
  where
    of_row : (r : Row) → IsIn r b → (d : Decl) → r.decl ≡ d → HasOwnRows b a r.path d
    of_row r m (endpoint d) e =
        each_from (λ k. rows_at b a (pool_at b a r.path k) r.path (a_region k.index) ≡ region_row b a r.path k ∷ []) d.regions
        (λ k l. only_row b a (pool_at b a r.path k) board lawful (region_row b a r.path k) (has_region_row b a (pool_at b a r.path k) board lawful r m d e k l (pool_self (pool_at b a r.path k))))
    of_row r m (bridge d) e = λ pool. own_window_rows b a pool board lawful r.path (each_in (λ (x : Row). IsPath x.path) r b board.paths m).some
