-- The buses of a board nest: each that has items begins and ends inside its window on the bus above.
use Rattle.std.{proofs.Common.{◌≡◌, ℕ, zero, suc, ◌+◌, ◌-◌, ◌/◌, ◌%◌, ◌≤◌, ◌<◌, ◌⊎◌, inl, inr, true, List, [], ◌∷◌, ◌++◌, length, Option, Some, None, refl, sym, ap, ◌∙◌, subst, arith, append_assoc, append-nil, div-add-mod'}, specs.{Prelude.IsTrue, Option.option_map_or}}
use Rattle.lists.{specs.Elements.IsIn, proofs.{Tests.{left_true, right_true}, Members.{each_in, from_any}}}
use Rattle.model_board.{specs.{Board.{Board, Row, Decl, endpoint, bridge, is_bridge, is_bridge_at, IsBoard}, Paths.{Part, Path, is_ancestor_of, parent, last_part}, Lawful.HasLawfulDecls}, proofs.{PathOrder.path_same, PathEnds.{snoc, parent_snoc, length_snoc, leads_up}}}
use Rattle.model_registers.specs.Apertures.{Apertures, Aperture}
use Rattle.model_set_up.{specs.{Pools.{Pool, unit_of, aperture_of}, Placement.{Placed, a_window, PlacementItem, PlacedItem, spots, in_order, end_from, round_up, need, alignment, window_items, items_on, root_bus_start, offset_on, first_below, bus_first}, Packing.{IsPowerOfTwo, IsRun}}, proofs.{Packing.{Divides, divides_add, divides_chain, powers_divide, unit_positive}, Items.{spot_of, item_of, spots_differ, offset_of_spot, alignment_power, align_below, unit_power, IsPlaceable, powers, run_of, end_below_need, items_placeable, items_for, region_of_item, Origin, origin, on_own_bus, items_differ}}}

-- ---- the first address of a bus, by that of the bus above

first_snoc : (b : Board) (a : Apertures) (pool : Pool) (xs : Path) (n : ℕ) (above : Path) (p : Part) → first_below b a pool n above (xs ++ p ∷ []) ≡ first_below b a pool n above xs + offset_on b a pool (above ++ xs) p a_window
first_snoc b a pool [] n above p = ap (λ (x : Path). n + offset_on b a pool x p a_window) (sym (append-nil above))
first_snoc b a pool (x ∷ xs) n above p = grind (arith, append_assoc, first_snoc b a pool xs)

-- a bus begins where the window of its bridge stands on the bus above
pub bus_first-snoc : (b : Board) (a : Apertures) (pool : Pool) (bus : Path) (p : Part) → bus_first b a pool (bus ++ p ∷ []) ≡ bus_first b a pool bus + offset_on b a pool bus p a_window
bus_first-snoc b a pool bus p = first_snoc b a pool bus (root_bus_start a pool (items_on b a pool [])) [] p

-- ---- multiples

pub divides_from : (a n : ℕ) → n % a ≡ 0 → Divides a n
divides_from a n h = (n / a, omega (arith, div-add-mod' n a))

-- ---- windows

abbrev pub HasItems : Board → Apertures → Pool → Path → Type 0
HasItems b a pool bus = (i : PlacementItem) × IsIn i (items_on b a pool bus)

-- where the last item of a bus ends
abbrev pub bus_end : Board → Apertures → Pool → Path → ℕ
bus_end b a pool bus = end_from 0 (in_order (items_on b a pool bus))

-- the window of the bridge at a part of a bus stands at a spot of the bus
pub record WindowOn (b : Board) (a : Apertures) (pool : Pool) (bus : Path) (p : Part) : Type 0 where
  pub row : Row
  pub there : IsIn row b
  pub path_is : row.path ≡ bus ++ p ∷ []
  pub is_bridge_row : is_bridge row.decl ≡ true
  pub behind : HasItems b a pool (bus ++ p ∷ [])
  pub spot : PlacedItem
  pub on : IsIn spot (spots (items_on b a pool bus))
  pub part_is : spot.item.part ≡ p
  pub what_is : spot.item.what ≡ a_window
  pub align_is : spot.item.align ≡ alignment (unit_of pool) (items_on b a pool (bus ++ p ∷ []))
  pub size_is : spot.item.size ≡ need (unit_of pool) (items_on b a pool (bus ++ p ∷ []))
  pub first_is : bus_first b a pool (bus ++ p ∷ []) ≡ bus_first b a pool bus + spot.first

-- an item of a function that is a window is that of a bridge with items behind it
record IsWindow (unit : ℕ) (is : List PlacementItem) (i : PlacementItem) : Type 0 where
  some : (j : PlacementItem) × IsIn j is
  align_is : i.align ≡ alignment unit is
  size_is : i.size ≡ need unit is

is_window : (unit : ℕ) (p : Part) (is : List PlacementItem) (i : PlacementItem) → IsIn i (window_items unit p is) → IsWindow unit is i
is_window unit p [] i m = absurd m
is_window unit p (j ∷ is) i (inl e) = record { some = (j, inl refl); align_is = ap (λ (k : PlacementItem). k.align) e; size_is = ap (λ (k : PlacementItem). k.size) e }
is_window unit p (j ∷ is) i (inr m) = absurd m

has_window : (unit : ℕ) (p : Part) (is : List PlacementItem) (j : PlacementItem) → IsIn j is → (i : PlacementItem) × IsIn i (window_items unit p is) × (i.part ≡ p) × (i.what ≡ a_window)
has_window unit p [] j m = absurd m
has_window unit p (k ∷ is) j m = (record { part = p; what = a_window; align = alignment unit (k ∷ is); size = need unit (k ∷ is) }, inl refl, refl, refl)

module _ (b : Board) (a : Apertures) (pool : Pool) (board : IsBoard b) (lawful : HasLawfulDecls b) where
  of_bridge : (p : Path) (d : Decl) (i : PlacementItem) → i.what ≡ a_window → IsIn i (items_for b a pool p d) → (is_bridge d ≡ true) × IsWindow (unit_of pool) (items_on b a pool p) i
  of_bridge p d i w m = grind (arith, region_of_item, is_window)

  pub offset_of : (bus : Path) (s : PlacedItem) → IsIn s (spots (items_on b a pool bus)) → offset_on b a pool bus s.item.part s.item.what ≡ s.first
  offset_of bus s m = offset_of_spot s (spots (items_on b a pool bus)) (spots_differ (items_on b a pool bus) (items_differ b a pool board lawful bus)) m

  -- a spot of a window is that of the bridge at its part
  pub window_of : (bus : Path) (s : PlacedItem) → IsIn s (spots (items_on b a pool bus)) → s.item.what ≡ a_window → (w : WindowOn b a pool bus s.item.part) × (w.spot ≡ s)
  window_of bus s m what =
      let o : Origin b a pool bus s.item = origin b a pool board bus s.item (item_of s (items_on b a pool bus) m) in
      let k = of_bridge o.row.path o.row.decl s.item what o.item in
      let kept : IsWindow (unit_of pool) (items_on b a pool (bus ++ s.item.part ∷ [])) s.item = subst (λ (x : Path). IsWindow (unit_of pool) (items_on b a pool x) s.item) o.path_is k.1 in (
        record {
          row = o.row;
          there = o.there;
          path_is = o.path_is;
          is_bridge_row = k.0;
          behind = kept.some;
          spot = s;
          on = m;
          part_is = refl;
          what_is = what;
          align_is = kept.align_is;
          size_is = kept.size_is;
          first_is = bus_first-snoc b a pool bus s.item.part ∙ ap (λ (v : Placed). bus_first b a pool bus + offset_on b a pool bus s.item.part v) (sym what) ∙ ap (λ n. bus_first b a pool bus + n) (offset_of bus s m);
        },
        refl,
      )

  -- behind the window on the bus above stands each bus but bus 0 that has items
  pub bridge_of_bus : (bus : Path) → HasItems b a pool bus → 0 < length bus → (r : Row) × IsIn r b × (r.path ≡ bus) × (is_bridge r.decl ≡ true)
  bridge_of_bus bus (i, m) some =
      let o : Origin b a pool bus i = origin b a pool board bus i m in
      let up : parent o.row.path ≡ bus = ap parent o.path_is ∙ parent_snoc bus i.part in
      by_parent (parent o.row.path) up (each_in (λ (s : Row). (parent s.path ≡ []) ⊎ IsTrue (is_bridge_at b (parent s.path))) o.row b board.behind_bridges o.there)
    where
      by_parent : (q : Path) → q ≡ bus → (q ≡ []) ⊎ IsTrue (is_bridge_at b q) → (r : Row) × IsIn r b × (r.path ≡ bus) × (is_bridge r.decl ≡ true)
      by_parent q e none = grind (arith, from_any, path_same, right_true, left_true)

  own_window : (p : Path) (d : Decl) → is_bridge d ≡ true → HasItems b a pool p → (i : PlacementItem) × IsIn i (items_for b a pool p d) × (i.part ≡ last_part p) × (i.what ≡ a_window)
  own_window p (endpoint d) h has = cc
  own_window p (bridge d) h (j, m) = has_window (unit_of pool) (last_part p) (items_on b a pool p) j m

  pub window_above : (bus : Path) → HasItems b a pool bus → 0 < length bus → WindowOn b a pool (parent bus) (last_part bus)
  window_above bus has some = by_row (bridge_of_bus bus has some)
    where
      by_spot : (r : Row) → r.path ≡ bus → (i : PlacementItem) → i.part ≡ last_part r.path → i.what ≡ a_window → (s : PlacedItem) × IsIn s (spots (items_on b a pool (parent r.path))) × (s.item ≡ i) → WindowOn b a pool (parent bus) (last_part bus)
      by_spot r path i part what (s, k, e) =
          let w = window_of (parent r.path) s k (ap (λ (j : PlacementItem). j.what) e ∙ what) in
          grind arith

      by_row : (r : Row) × IsIn r b × (r.path ≡ bus) × (is_bridge r.decl ≡ true) → WindowOn b a pool (parent bus) (last_part bus)
      by_row (r, m, path, is) =
          let i = own_window r.path r.decl is (subst (HasItems b a pool) (sym path) has) in
          by_spot r path i.0 i.2 i.3 (spot_of i.0 (items_on b a pool (parent r.path)) (on_own_bus b a pool board r m i.0 i.1))

  -- ---- from bus 0 down

  down : (P : Path → Type 0) → (HasItems b a pool [] → P []) → ((bus : Path) (p : Part) → WindowOn b a pool bus p → P bus → P (bus ++ p ∷ []))
      → (n : ℕ) (bus : Path) → length bus ≤ n → HasItems b a pool bus → P bus
  down P root step n [] few has = root has
  down P root step zero (x ∷ bus) few has = absurd (omega arith)
  down P root step (suc n) (x ∷ bus) few has =
      let w : WindowOn b a pool (parent (x ∷ bus)) (last_part (x ∷ bus)) = window_above (x ∷ bus) has (omega arith) in
      let split : x ∷ bus ≡ parent (x ∷ bus) ++ last_part (x ∷ bus) ∷ [] = snoc (x ∷ bus) (omega arith) in
      let shorter : length (parent (x ∷ bus)) ≤ n = omega (arith, ap length split, length_snoc (parent (x ∷ bus)) (last_part (x ∷ bus)), few) in
      subst P (sym split) (step (parent (x ∷ bus)) (last_part (x ∷ bus)) w (down P root step n (parent (x ∷ bus)) shorter (w.spot.item, item_of w.spot (items_on b a pool (parent (x ∷ bus))) w.on)))

  -- what holds of bus 0 and is passed on from bus to bus holds of each bus that has items
  pub down_buses : (P : Path → Type 0) → (HasItems b a pool [] → P []) → ((bus : Path) (p : Part) → WindowOn b a pool bus p → P bus → P (bus ++ p ∷ [])) → (bus : Path) → HasItems b a pool bus → P bus
  down_buses P root step bus has = down P root step (length bus) bus (omega arith) has

  pub root_has : (bus : Path) → HasItems b a pool bus → HasItems b a pool []
  root_has bus has = down_buses (λ q. HasItems b a pool []) (λ h. h) (λ q p w h. h) bus has

  pub spot_placeable : (bus : Path) (s : PlacedItem) → IsIn s (spots (items_on b a pool bus)) → IsPlaceable (unit_of pool) s.item
  spot_placeable bus s m = each_in (IsPlaceable (unit_of pool)) s.item (items_on b a pool bus) (items_placeable b a pool lawful bus) (item_of s (items_on b a pool bus) m)

  pub bus_run : (bus : Path) → IsRun 0 (bus_end b a pool bus) (spots (items_on b a pool bus))
  bus_run bus = run_of (unit_of pool) (items_on b a pool bus) (items_placeable b a pool lawful bus)

  pub bus_power : (bus : Path) → IsPowerOfTwo (alignment (unit_of pool) (items_on b a pool bus))
  bus_power bus = alignment_power (unit_of pool) (items_on b a pool bus) (unit_power pool) (powers (unit_of pool) (items_on b a pool bus) (items_placeable b a pool lawful bus))

  -- a spot's alignment divides its address, if that of its bus divides the bus's
  pub spot_aligned : (bus : Path) → Divides (alignment (unit_of pool) (items_on b a pool bus)) (bus_first b a pool bus) → (s : PlacedItem) → IsIn s (spots (items_on b a pool bus)) → Divides s.item.align (bus_first b a pool bus + s.first)
  spot_aligned bus h s m =
      let whole : IsPlaceable (unit_of pool) s.item = spot_placeable bus s m in
      let le : s.item.align ≤ alignment (unit_of pool) (items_on b a pool bus) = align_below (unit_of pool) s.item (items_on b a pool bus) (item_of s (items_on b a pool bus) m) in
      divides_add s.item.align (bus_first b a pool bus) s.first
      (divides_chain s.item.align (alignment (unit_of pool) (items_on b a pool bus)) (bus_first b a pool bus) (powers_divide s.item.align (alignment (unit_of pool) (items_on b a pool bus)) whole.power (bus_power bus) le) h)
      (divides_from s.item.align s.first (each_in (λ (t : PlacedItem). t.first % t.item.align ≡ 0) s (spots (items_on b a pool bus)) (bus_run bus).aligned m))

  pub bus_aligned : (bus : Path) → HasItems b a pool bus → Divides (alignment (unit_of pool) (items_on b a pool bus)) (bus_first b a pool bus)
  bus_aligned bus has = down_buses (λ q. Divides (alignment (unit_of pool) (items_on b a pool q)) (bus_first b a pool q)) root step bus has
    where
      root : HasItems b a pool [] → Divides (alignment (unit_of pool) (items_on b a pool [])) (bus_first b a pool [])
      root h = by_aperture (alignment (unit_of pool) (items_on b a pool [])) (aperture_of a pool)
        where
          by_aperture : (n : ℕ) (o : Option Aperture) → Divides n (option_map_or (λ (ap : Aperture). round_up n ap.first) o 0)
          by_aperture n None = (0, omega arith)
          by_aperture n (Some ap) = ((ap.first + (n - 1)) / n, refl)

      step : (q : Path) (p : Part) → WindowOn b a pool q p → Divides (alignment (unit_of pool) (items_on b a pool q)) (bus_first b a pool q)
          → Divides (alignment (unit_of pool) (items_on b a pool (q ++ p ∷ []))) (bus_first b a pool (q ++ p ∷ []))
      step q p w h = rw (w.first_is, ← w.align_is) (spot_aligned q h w.spot w.on)

  -- ---- each bus within those that lead to it

  pub record IsWithin (q bus : Path) : Type 0 where
    pub begins : bus_first b a pool q ≤ bus_first b a pool bus
    pub ends : bus_first b a pool bus + bus_end b a pool bus ≤ bus_first b a pool q + bus_end b a pool q

  pub nested : (bus : Path) → HasItems b a pool bus → (q : Path) → (q ≡ bus) ⊎ (is_ancestor_of q bus ≡ true) → IsWithin q bus
  nested bus has = down_buses (λ x. (q : Path) → (q ≡ x) ⊎ (is_ancestor_of q x ≡ true) → IsWithin q x) (λ h. root) step bus has
    where
      itself : (q x : Path) → q ≡ x → IsWithin q x
      itself q x e = subst (IsWithin q) e (record { begins = omega arith; ends = omega arith })

      root : (q : Path) → (q ≡ []) ⊎ (is_ancestor_of q [] ≡ true) → IsWithin q []
      root q (inl e) = itself q [] e
      root [] (inr h) = cc
      root (x ∷ q) (inr h) = cc

      step : (x : Path) (p : Part) → WindowOn b a pool x p → ((q : Path) → (q ≡ x) ⊎ (is_ancestor_of q x ≡ true) → IsWithin q x) → (q : Path) → (q ≡ x ++ p ∷ []) ⊎ (is_ancestor_of q (x ++ p ∷ []) ≡ true) → IsWithin q (x ++ p ∷ [])
      step x p w more q e = grind (arith, itself, leads_up, each_in, bus_run, end_below_need, unit_positive)

  pub items_above : (bus : Path) → HasItems b a pool bus → (q : Path) → (q ≡ bus) ⊎ (is_ancestor_of q bus ≡ true) → HasItems b a pool q
  items_above bus has = down_buses (λ x. (q : Path) → (q ≡ x) ⊎ (is_ancestor_of q x ≡ true) → HasItems b a pool q) root step bus has
    where
      root : HasItems b a pool [] → (q : Path) → (q ≡ []) ⊎ (is_ancestor_of q [] ≡ true) → HasItems b a pool q
      root h q (inl e) = subst (HasItems b a pool) (sym e) h
      root h [] (inr k) = cc
      root h (x ∷ q) (inr k) = cc

      step : (x : Path) (p : Part) → WindowOn b a pool x p → ((q : Path) → (q ≡ x) ⊎ (is_ancestor_of q x ≡ true) → HasItems b a pool q) → (q : Path) → (q ≡ x ++ p ∷ []) ⊎ (is_ancestor_of q (x ++ p ∷ []) ≡ true) → HasItems b a pool q
      step x p w more q h = grind (arith, leads_up)
