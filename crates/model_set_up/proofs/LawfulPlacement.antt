-- Where a pool fits, the rows of its compact placement are lawful.
use Rattle.std.{proofs.{Common.{◌≡◌, ℕ, ◌+◌, ◌%◌, ◌≤◌, ◌<◌, ◌⊎◌, inl, inr, Bool, true, false, ◌&&◌, List, [], ◌∷◌, ◌++◌, length, Option, MatchOption, refl, sym, ap, ap₂, ◌∙◌, subst, arith, rules}, lemmas.Bool.{leb-true, and_parts}, Math.Nat.mul-mod_left}, specs.{Prelude.{IsTrue, map, filter, nat_le}, List.list_any, Option.option_map_or}}
use Rattle.lists.{specs.Elements.{Each, EachPair, IsIn}, proofs.{Members.{each_in, each_from, in_flat_map, from_flat_map, in_map, from_map, in_filter, from_filter, any_in, from_any, pairs_weaker, pairs_flat_map, pairs_of_map}, EachLemmas.pairs_filter}}
use Rattle.model_board.{specs.{Board.{Board, Row, is_bridge, IsBoard}, Paths.{Path, path_eq, path_before, is_ancestor_of, parent, last_part, IsPath}, Lawful.HasLawfulDecls}, proofs.{PlacesLaw.before_apart, PathEnds.{snoc, path_self, parent_snoc, leads_up}}}
use Rattle.model_registers.specs.Apertures.{Apertures, Aperture}
use Rattle.model_set_up.{specs.{Pools.{Pool, io_pool, mem_pool, pref_pool, same_pool, unit_of, aperture_of}, Placement.{Placed, a_region, a_window, PlacementItem, PlacedItem, spot_end, spots, in_order, round_up, items_on, fits, bus_first}, Layout.{LayoutRow, IsAligned, is_window_over, IsUnderWindows, IsLawful, row_of, bus_rows, buses, pool_rows, layout}, Extents.{IsInside, AreApart}, Packing.IsPowerOfTwo, PlacementLaws.{PoolsAreLawful, LayoutIsLawful}}, proofs.{PlacedApart.pool_is, Packing.{Divides, divides_chain, powers_divide, unit_positive, round_up_not_before}, Items.{item_of, unit_power, unit_below, AlignsAs, IsPlaceable, some_end, end_below_need, items_placeable}, Nesting.{HasItems, bus_end, WindowOn, window_of, window_above, root_has, spot_placeable, bus_run, spot_aligned, bus_aligned, IsWithin, nested, items_above, bridge_of_bus}}}

-- ---- buses

pub buses_differ : (b : Board) → IsBoard b → EachPair (λ x y. path_eq x y ≡ false) (buses b)
buses_differ b board = (
  each_from (λ y. path_eq [] y ≡ false) (map (λ r. r.path) (filter (λ r. is_bridge r.decl) b)) (λ y m. not_root y (from_map (λ (r : Row). r.path) y (filter (λ r. is_bridge r.decl) b) m)),
  pairs_of_map (λ x y. path_eq x y ≡ false) (λ (r : Row). r.path) (filter (λ r. is_bridge r.decl) b)
      (pairs_weaker (λ (r s : Row). IsTrue (path_before r.path s.path)) (λ r s. path_eq r.path s.path ≡ false) (filter (λ r. is_bridge r.decl) b)
      (pairs_filter (λ (r s : Row). IsTrue (path_before r.path s.path)) (λ r. is_bridge r.decl) b board.in_order) (λ r s m k before. before_apart r.path s.path before)),
)
  where
    nonempty : (p : Path) → 0 < length p → path_eq [] p ≡ false
    nonempty p h = grind arith

    not_root : (y : Path) → (r : Row) × IsIn r (filter (λ r. is_bridge r.decl) b) × (y ≡ r.path) → path_eq [] y ≡ false
    not_root y (r, m, e) = subst (λ (x : Path). path_eq [] x ≡ false) (sym e) (nonempty r.path (each_in (λ (s : Row). IsPath s.path) r b board.paths (from_filter (λ (s : Row). is_bridge s.decl) r b m).0).some)

pub pool_self : (pool : Pool) → same_pool pool pool ≡ true
pool_self pool = grind arith

-- ---- one row

aligned_as : (i : PlacementItem) (path : Path) (v : Placed) (pool : Pool) (first : ℕ) (w : Placed) → IsPowerOfTwo i.align → IsPowerOfTwo (unit_of pool) → AlignsAs (unit_of pool) i w → Divides i.align first
    → IsAligned (record { path = path; what = v; pool = pool; first = first; size = i.size }) w
aligned_as i path v pool first (a_region n) p u h (k, e) = ap₂ ◌%◌ e (sym h) ∙ mul-mod_left k i.align
aligned_as i path v pool first a_window p u h d =
    let (k, e) = divides_chain (unit_of pool) i.align first (powers_divide (unit_of pool) i.align u p h.0) d in
    (ap (λ n. n % unit_of pool) e ∙ mul-mod_left k (unit_of pool), h.1)

in_aperture : (o : Option Aperture) (align end : ℕ) → 0 < align → 0 < end
    → nat_le (option_map_or (λ (ap : Aperture). round_up align ap.first) o 0 + end) (option_map_or (λ (ap : Aperture). ap.last + 1) o 0) ≡ true
    → (row : LayoutRow) → IsInside (option_map_or (λ (ap : Aperture). round_up align ap.first) o 0) (option_map_or (λ (ap : Aperture). round_up align ap.first) o 0 + end) row.first row.size
    → MatchOption o ⊥ (λ ap. IsInside ap.first (ap.last + 1) row.first row.size)
in_aperture o align end h k fit row inside = grind (arith, leb-true, round_up_not_before)

window_over : (r : LayoutRow) (v : Placed) (t : Bool) → (elim v [ a_region n ↦ false | a_window ↦ t ]) ≡ true → (v ≡ a_window) × (t ≡ true)
window_over r v t h = grind arith

-- a row stands for a spot of a bus
pub record OnBus (b : Board) (a : Apertures) (pool : Pool) (row : LayoutRow) : Type 0 where
  pub bus : Path
  pub is_bus : IsIn bus (buses b)
  pub spot : PlacedItem
  pub on : IsIn spot (spots (items_on b a pool bus))
  pub row_is : row ≡ row_of pool bus (bus_first b a pool bus) spot

pub on_bus_row : (b : Board) (a : Apertures) (pool : Pool) (row : LayoutRow) → IsIn row (pool_rows b a pool) → OnBus b a pool row
on_bus_row b a pool row m = grind (arith, from_flat_map (bus_rows b a pool) row (buses b) m, from_map)

module _ (b : Board) (a : Apertures) (pool : Pool) (board : IsBoard b) (lawful : HasLawfulDecls b) where
  abbrev the_row : Path → PlacedItem → LayoutRow
  the_row bus s = row_of pool bus (bus_first b a pool bus) s

  spot_has : (bus : Path) (s : PlacedItem) → IsIn s (spots (items_on b a pool bus)) → HasItems b a pool bus
  spot_has bus s m = (s.item, item_of s (items_on b a pool bus) m)

  -- a bus with items is among the buses of the board, and its spots' rows among the rows
  pub bus_in : (bus : Path) → HasItems b a pool bus → IsIn bus (buses b)
  bus_in [] has = inl refl
  bus_in (x ∷ bus) has =
      let f = bridge_of_bus b a pool board lawful (x ∷ bus) has (omega arith) in
      inr (subst (λ (q : Path). IsIn q (map (λ (r : Row). r.path) (filter (λ r. is_bridge r.decl) b))) f.2 (in_map (λ (r : Row). r.path) f.0 (filter (λ r. is_bridge r.decl) b) (in_filter (λ (r : Row). is_bridge r.decl) f.0 b f.1 f.3)))

  pub row_in : (bus : Path) (s : PlacedItem) → IsIn s (spots (items_on b a pool bus)) → IsIn (the_row bus s) (pool_rows b a pool)
  row_in bus s m =
      in_flat_map (bus_rows b a pool) bus (the_row bus s) (buses b) (bus_in bus (spot_has bus s m))
      (in_map (row_of pool bus (bus_first b a pool bus)) s (spots (items_on b a pool bus)) m)

  row_aligned : (bus : Path) (s : PlacedItem) → IsIn s (spots (items_on b a pool bus)) → IsAligned (the_row bus s) s.item.what
  row_aligned bus s m =
      let whole : IsPlaceable (unit_of pool) s.item = spot_placeable b a pool board lawful bus s m in
      search (rules, aligned_as, unit_power, spot_aligned, bus_aligned, spot_has)

  -- a spot's row stands inside each bus that leads to it
  row_inside : (bus : Path) (s : PlacedItem) → IsIn s (spots (items_on b a pool bus)) → (q : Path) → (q ≡ bus) ⊎ (is_ancestor_of q bus ≡ true)
      → IsInside (bus_first b a pool q) (bus_first b a pool q + bus_end b a pool q) (the_row bus s).first (the_row bus s).size
  row_inside bus s m q over =
      let up : IsWithin b a pool board lawful q bus = nested b a pool board lawful bus (spot_has bus s m) q over in
      let inside = each_in (λ (t : PlacedItem). (0 ≤ t.first) × (spot_end t ≤ bus_end b a pool bus)) s (spots (items_on b a pool bus)) (bus_run b a pool board lawful bus).within m in
      grind (arith, bus_end)

  from_root : (bus : Path) → ([] ≡ bus) ⊎ (is_ancestor_of [] bus ≡ true)
  from_root bus = grind arith

  row_in_aperture : fits b a pool ≡ true → (bus : Path) (s : PlacedItem) → IsIn s (spots (items_on b a pool bus)) → MatchOption (aperture_of a pool) ⊥ (λ ap. IsInside ap.first (ap.last + 1) (the_row bus s).first (the_row bus s).size)
  row_in_aperture fit bus s m =
      grind (arith, items_placeable b a pool lawful [], root_has b a pool board lawful bus (spot_has bus s m), spot_has bus s m, row_inside bus s m [] (from_root bus), from_root bus, in_aperture, unit_below, unit_positive, some_end)

  row_under : (bus : Path) (s : PlacedItem) → IsIn s (spots (items_on b a pool bus)) → IsUnderWindows b (pool_rows b a pool) (the_row bus s)
  row_under bus s m = record {
    inside = each_from (λ w. IsTrue (is_window_over (the_row bus s) w) → IsInside w.first (w.first + w.size) (the_row bus s).first (the_row bus s).size) (pool_rows b a pool) (λ w k over. of_window w (on_bus_row b a pool w k) over);
    there = each_from (λ (d : Row). IsTrue (is_ancestor_of d.path (bus ++ s.item.part ∷ [])) → IsTrue (list_any (λ w. is_window_over (the_row bus s) w && path_eq w.path d.path) (pool_rows b a pool))) b
        (λ d k leads. of_bridge d.path (each_in (λ (r : Row). IsPath r.path) d b board.paths k).some leads);
  }
    where
      of_window : (w : LayoutRow) → OnBus b a pool w → is_window_over (the_row bus s) w ≡ true → IsInside w.first (w.first + w.size) (the_row bus s).first (the_row bus s).size
      of_window w o over = rw o.row_is (of_spot o.bus o.spot o.on (rw o.row_is at over))
        where
          of_spot : (x : Path) (t : PlacedItem) → IsIn t (spots (items_on b a pool x)) → is_window_over (the_row bus s) (the_row x t) ≡ true → IsInside (bus_first b a pool x + t.first) (bus_first b a pool x + t.first + t.item.size) (the_row bus s).first (the_row bus s).size
          of_spot x t k over =
              let k' = window_over (the_row bus s) t.item.what (same_pool pool pool && is_ancestor_of (x ++ t.item.part ∷ []) (bus ++ s.item.part ∷ [])) over in
              grind (arith, and_parts (same_pool pool pool) (is_ancestor_of (x ++ t.item.part ∷ []) (bus ++ s.item.part ∷ [])) k'.1, window_of b a pool board lawful x t k k'.0, row_inside bus s m (x ++ t.item.part ∷ []), leads_up (x ++ t.item.part ∷ []) bus s.item.part, end_below_need, unit_positive)

      of_bridge : (q : Path) → 0 < length q → is_ancestor_of q (bus ++ s.item.part ∷ []) ≡ true → list_any (λ w. is_window_over (the_row bus s) w && path_eq w.path q) (pool_rows b a pool) ≡ true
      of_bridge q some leads =
          let has : HasItems b a pool q = items_above b a pool board lawful bus (spot_has bus s m) q (leads_up q bus s.item.part leads) in
          let w : WindowOn b a pool (parent q) (last_part q) = window_above b a pool board lawful q has some in
          grind (arith, snoc q some, any_in, row_in (parent q) w.spot w.on, pool_self pool, path_self q)

  abbrev ApartOnBus : LayoutRow → LayoutRow → Type 0
  ApartOnBus r s = IsTrue (same_pool r.pool s.pool && path_eq (parent r.path) (parent s.path)) → AreApart r.first r.size s.first s.size

  bus_apart : (bus : Path) → EachPair ApartOnBus (bus_rows b a pool bus)
  bus_apart bus =
      grind (arith, pairs_of_map ApartOnBus (row_of pool bus (bus_first b a pool bus)) (spots (items_on b a pool bus)), pairs_weaker, bus_run b a pool board lawful bus)

  rows_apart : EachPair ApartOnBus (pool_rows b a pool)
  rows_apart =
      pairs_flat_map (λ x y. path_eq x y ≡ false) ApartOnBus (bus_rows b a pool) (buses b) (buses_differ b board) (λ bus m. bus_apart bus)
      (λ x y m k other r s l n same. of_two x y other r s (from_map (row_of pool x (bus_first b a pool x)) r (spots (items_on b a pool x)) l) (from_map (row_of pool y (bus_first b a pool y)) s (spots (items_on b a pool y)) n) same)
    where
      of_two : (x y : Path) → path_eq x y ≡ false → (r s : LayoutRow) → (t : PlacedItem) × IsIn t (spots (items_on b a pool x)) × (r ≡ the_row x t) → (u : PlacedItem) × IsIn u (spots (items_on b a pool y)) × (s ≡ the_row y u)
          → (same_pool r.pool s.pool && path_eq (parent r.path) (parent s.path)) ≡ true → AreApart r.first r.size s.first s.size
      of_two x y other r s (t, m, e) (u, k, f) same = grind (arith, parent_snoc, and_parts)

  pub pool_lawful : fits b a pool ≡ true → IsLawful b a (pool_rows b a pool)
  pool_lawful fit = record {
    aligned = each_from (λ r. IsAligned r r.what) (pool_rows b a pool) (λ r m. let o = on_bus_row b a pool r m in subst (λ (x : LayoutRow). IsAligned x x.what) (sym o.row_is) (row_aligned o.bus o.spot o.on));
    in_apertures = each_from (λ r. MatchOption (aperture_of a r.pool) ⊥ (λ ap. IsInside ap.first (ap.last + 1) r.first r.size)) (pool_rows b a pool)
        (λ r m. let o = on_bus_row b a pool r m in subst (λ (x : LayoutRow). MatchOption (aperture_of a x.pool) ⊥ (λ ap. IsInside ap.first (ap.last + 1) x.first x.size)) (sym o.row_is) (row_in_aperture fit o.bus o.spot o.on));
    under_windows = each_from (IsUnderWindows b (pool_rows b a pool)) (pool_rows b a pool) (λ r m. let o = on_bus_row b a pool r m in subst (IsUnderWindows b (pool_rows b a pool)) (sym o.row_is) (row_under o.bus o.spot o.on));
    apart = rows_apart;
  }

pub pools_are_lawful : PoolsAreLawful
pools_are_lawful b a board lawful pool fit = pool_lawful b a pool board lawful fit

-- ---- all pools

module _ (b : Board) (a : Apertures) (each_lawful : (pool : Pool) → IsLawful b a (pool_rows b a pool)) where
  abbrev pools : List Pool
  pools = io_pool ∷ mem_pool ∷ pref_pool ∷ []

  in_pools : (pool : Pool) → IsIn pool pools
  in_pools pool = grind arith

  in_layout : (pool : Pool) (r : LayoutRow) → IsIn r (pool_rows b a pool) → IsIn r (layout b a)
  in_layout pool r m = in_flat_map (pool_rows b a) pool r pools (in_pools pool) m

  row_pool : (pool : Pool) (r : LayoutRow) → IsIn r (pool_rows b a pool) → r.pool ≡ pool
  row_pool pool r m = ap (λ (x : LayoutRow). x.pool) (on_bus_row b a pool r m).row_is

  each_row : (P : LayoutRow → Type 0) → ((pool : Pool) (r : LayoutRow) → IsIn r (pool_rows b a pool) → P r) → Each P (layout b a)
  each_row P f = each_from P (layout b a) (λ r m. by_pool r (from_flat_map (pool_rows b a) r pools m))
    where
      by_pool : (r : LayoutRow) → (pool : Pool) × IsIn pool pools × IsIn r (pool_rows b a pool) → P r
      by_pool r (pool, k, m) = f pool r m

  -- a window over a row is of the row's pool
  same_rows : (p q : Pool) (r w : LayoutRow) → IsIn r (pool_rows b a p) → IsIn w (pool_rows b a q) → is_window_over r w ≡ true → IsIn w (pool_rows b a p)
  same_rows p q r w m k over =
      let t = (window_over r w.what (same_pool w.pool r.pool && is_ancestor_of w.path r.path) over).1 in
      let same : same_pool q p ≡ true = sym (ap₂ same_pool (row_pool q w k) (row_pool p r m)) ∙ (and_parts (same_pool w.pool r.pool) (is_ancestor_of w.path r.path) t).0 in
      subst (λ (x : Pool). IsIn w (pool_rows b a x)) (pool_is q p same) k

  under_all : (p : Pool) (r : LayoutRow) → IsIn r (pool_rows b a p) → IsUnderWindows b (layout b a) r
  under_all p r m =
      let own : IsUnderWindows b (pool_rows b a p) r = each_in (IsUnderWindows b (pool_rows b a p)) r (pool_rows b a p) (each_lawful p).under_windows m in
      record {
        inside = each_row (λ w. IsTrue (is_window_over r w) → IsInside w.first (w.first + w.size) r.first r.size)
            (λ q w k over. each_in (λ (x : LayoutRow). IsTrue (is_window_over r x) → IsInside x.first (x.first + x.size) r.first r.size) w (pool_rows b a p) own.inside (same_rows p q r w m k over) over);
        there = each_from (λ (d : Row). IsTrue (is_ancestor_of d.path r.path) → IsTrue (list_any (λ w. is_window_over r w && path_eq w.path d.path) (layout b a))) b
            (λ d k leads. widened d (each_in (λ (x : Row). IsTrue (is_ancestor_of x.path r.path) → IsTrue (list_any (λ w. is_window_over r w && path_eq w.path x.path) (pool_rows b a p))) d b own.there k leads));
      }
    where
      widened : (d : Row) → list_any (λ w. is_window_over r w && path_eq w.path d.path) (pool_rows b a p) ≡ true → list_any (λ w. is_window_over r w && path_eq w.path d.path) (layout b a) ≡ true
      widened d h =
          let f = from_any (λ (w : LayoutRow). is_window_over r w && path_eq w.path d.path) (pool_rows b a p) h in
          any_in (λ (w : LayoutRow). is_window_over r w && path_eq w.path d.path) f.0 (layout b a) (in_layout p f.0 f.1) f.2

  abbrev Apart : LayoutRow → LayoutRow → Type 0
  Apart r s = IsTrue (same_pool r.pool s.pool && path_eq (parent r.path) (parent s.path)) → AreApart r.first r.size s.first s.size

  all_apart : EachPair Apart (layout b a)
  all_apart =
      pairs_flat_map (λ p q. same_pool p q ≡ false) Apart (pool_rows b a) pools ((refl, (refl, tt)), ((refl, tt), (tt, tt))) (λ p m. (each_lawful p).apart)
      (λ p q m k other r s l n same. of_two p q other r s l n same)
    where
      of_two : (p q : Pool) → same_pool p q ≡ false → (r s : LayoutRow) → IsIn r (pool_rows b a p) → IsIn s (pool_rows b a q) → (same_pool r.pool s.pool && path_eq (parent r.path) (parent s.path)) ≡ true → AreApart r.first r.size s.first s.size
      of_two p q other r s m k same =
          grind (arith, and_parts (same_pool r.pool s.pool) (path_eq (parent r.path) (parent s.path)) same, row_pool p r m, row_pool q s k)

  all_lawful : IsLawful b a (layout b a)
  all_lawful = record {
    aligned = each_row (λ r. IsAligned r r.what) (λ p r m. each_in (λ (x : LayoutRow). IsAligned x x.what) r (pool_rows b a p) (each_lawful p).aligned m);
    in_apertures = each_row (λ r. MatchOption (aperture_of a r.pool) ⊥ (λ ap. IsInside ap.first (ap.last + 1) r.first r.size))
        (λ p r m. each_in (λ (x : LayoutRow). MatchOption (aperture_of a x.pool) ⊥ (λ ap. IsInside ap.first (ap.last + 1) x.first x.size)) r (pool_rows b a p) (each_lawful p).in_apertures m);
    under_windows = each_row (IsUnderWindows b (layout b a)) under_all;
    apart = all_apart;
  }

pub layout_is_lawful : LayoutIsLawful
layout_is_lawful b a board lawful fit = all_lawful b a (λ pool. pool_lawful b a pool board lawful (fit pool))
