-- After set-up the windows of a board's bridges are those that placement gave them: a pool's items stand behind bridges that can name its addresses alone.
use Rattle.std.{proofs.{Common.{◌≡◌, ℕ, zero, suc, ◌+◌, ◌-◌, ◌%◌, ◌^◌, ◌≤◌, ◌<◌, inl, Bool, true, ◌||◌, not, List, [], ◌∷◌, ◌++◌, length, Option, Some, MatchOption, refl, sym, ap, ◌∙◌, subst, arith, rules, inr}, lemmas.Bool.{ltb-true, and_parts, or_right, or_left, le-leb}}, specs.{Prelude.{filter, IsTrue, ⊤}, List.list_all}}
use Rattle.lists.{specs.Elements.{Each, IsIn}, proofs.Members.{each_in, each_from, from_flat_map, in_filter, in_flat_map, any_in, all_in}}
use Rattle.model_registers.specs.{Declarations.{Kind, Region, Endpoint, IoDecode, Bridge}, BridgeTable.{Window, BridgeValues, bridge_file}, Apertures.{IsLawfulApertures, Aperture, Apertures}}
use Rattle.model_board.{specs.{Board.{Board, Row, Decl, endpoint, bridge, rows_on, IsBoard}, Paths.{Path, is_ancestor_of, last_part, IsPath}, Lawful.HasLawfulDecls, Windows.{io_window, mem_window, pref_window, is_in_window}}, proofs.PathEnds.{leads_self, leads_trans}}
use Rattle.model_set_up.{specs.{Pools.{Pool, io_pool, mem_pool, pref_pool, same_pool, unit_of, bridge_of, bridges_above, can_reach_pref_aperture, pool_of, is_io, opens_io, has_io, has_io_paths, aperture_of}, Placement.{PlacementItem, need, window_items, items_of, items_within, items_on, fits, bus_first, a_region, a_window}, Layout.{IsAligned, IsLawful, pool_rows, LayoutRow, layout}, Extents.IsInside, PlacementLaws.{window_row, window_rows, IsRowFor, HasRows}, SetUp.{window_of, set_up_file}, WindowLaws.{io_reach, pref_reach, IsWhole, window_over, HasPlacedWindows, SetUpWindows, ForwardsPlaced}, PlacedRegions.pool_space}, proofs.{Packing.unit_positive, Items.{some_end, end_below_need, items_placeable, region_of_item, on_bus}, Nesting.HasItems, LawfulPlacement.pool_lawful, DeclaredRows.has_window_row, WindowReads.{closed_windows_forward_nothing, windows_named}}}

-- ---- items stand for regions behind

-- a region of the pool behind a bridge
record Behind (b : Board) (a : Apertures) (pool : Pool) (p : Path) : Type 0 where
  row : Row
  there : IsIn row b
  leads : is_ancestor_of p row.path ≡ true
  decl : Endpoint
  decl_is : row.decl ≡ endpoint decl
  region : Region
  declared : IsIn region decl.regions
  in_pool : same_pool (pool_of a (bridges_above b row.path) region.kind) pool ≡ true

window_item : (unit : ℕ) (is : List PlacementItem) (p : Path) (i : PlacementItem) → IsIn i (window_items unit (last_part p) is) → (j : PlacementItem) × IsIn j is
window_item unit [] p i m = absurd m
window_item unit (j ∷ is) p i m = (j, inl refl)

module _ (b : Board) (a : Apertures) (pool : Pool) (paths : Each (λ r. IsPath r.path) b) where
  behind : (n : ℕ) (p : Path) (i : PlacementItem) → IsIn i (items_within b a pool n p) → Behind b a pool p
  behind zero p i m = absurd m
  behind (suc n) p i m = by_row (from_flat_map (items_of b a pool (items_within b a pool n)) i (rows_on b p) m) (behind n)
    where
      by_row : (r : Row) × IsIn r (rows_on b p) × IsIn i (items_of b a pool (items_within b a pool n) r) → ((q : Path) (j : PlacementItem) → IsIn j (items_within b a pool n q) → Behind b a pool q) → Behind b a pool p
      by_row (r, m, k) more = by_decl r.decl refl k
        where
          on : IsIn r b × (r.path ≡ p ++ last_part r.path ∷ [])
          on = on_bus b p r paths m

          leads : is_ancestor_of p r.path ≡ true
          leads = subst (λ (x : Path). is_ancestor_of p x ≡ true) (sym on.1) (leads_self p (last_part r.path))

          deeper : Behind b a pool r.path → Behind b a pool p
          deeper h = grind (arith, leads, leads_trans)

          by_decl : (d : Decl) → r.decl ≡ d → IsIn i (items_of b a pool (items_within b a pool n) (record { path = r.path; decl = d })) → Behind b a pool p
          by_decl (endpoint d) e k = grind (arith, region_of_item b a pool r.path d i k, on, leads)
          by_decl (bridge d) e k = let j = window_item (unit_of pool) (items_within b a pool n r.path) r.path i k in deeper (more r.path j.0 j.1)

-- a bridge of the board that leads to a path is above it
above : (b : Board) (r : Row) (d : Bridge) (p : Path) → IsIn r b → r.decl ≡ bridge d → is_ancestor_of r.path p ≡ true → IsIn d (bridges_above b p)
above b r d p m e leads = in_flat_map bridge_of r d (filter (λ r. is_ancestor_of r.path p) b) (in_filter (λ (r : Row). is_ancestor_of r.path p) r b m leads) (rw e (inl refl))

-- ---- what the pool of a region says of the bridges above it

is_io_of : (a : Apertures) (ds : List Bridge) (k : Kind) → same_pool (pool_of a ds k) io_pool ≡ true → is_io k ≡ true
is_io_of a ds k h = grind arith

abbrev Reached : Option Aperture → List Bridge → Type 0
Reached o ds = (ap : Aperture) × (wide : Bool) × (o ≡ Some ap) × (can_reach_pref_aperture ap ds wide ≡ true)

pref_of : (a : Apertures) (ds : List Bridge) (k : Kind) → same_pool (pool_of a ds k) pref_pool ≡ true → Reached a.pref ds
pref_of a ds k h = grind arith

-- ---- each bridge above can name the pool's addresses

pref_reached : (ap : Aperture) (ds : List Bridge) (wide : Bool) (d : Bridge) → IsIn d ds → ap.last < 2 ^ 63 → can_reach_pref_aperture ap ds wide ≡ true → ap.last < pref_reach d.pref
pref_reached ap ds wide d m limit h = grind (arith, ltb-true, all_in, and_parts)

io_reached : (k : IoDecode) (n : ℕ) → n < 2 ^ 16 → has_io k ≡ true → n < io_reach k
io_reached k n h has = grind arith

or_second : (s t : Bool) → (not s || t) ≡ true → s ≡ true → t ≡ true
or_second s t h k = grind arith

module _ (b : Board) (a : Apertures) (board : IsBoard b) (apertures : IsLawfulApertures a) (r : Row) (there : IsIn r b) (d : Bridge) (decl : r.decl ≡ bridge d) where
  io_above : has_io_paths b ≡ true → HasItems b a io_pool r.path → a.io.last < io_reach d.io
  io_above ways (i, m) =
      let h : Behind b a io_pool r.path = behind b a io_pool board.paths 16 r.path i m in
      let is : is_io h.region.kind ≡ true = is_io_of a (bridges_above b h.row.path) h.region.kind h.in_pool in
      let opens : opens_io h.row.decl ≡ true = rw h.decl_is (any_in (λ (k : Region). is_io k.kind) h.region h.decl.regions h.declared is) in
      let all : list_all (λ d. has_io d.io) (bridges_above b h.row.path) ≡ true =
      or_second (opens_io h.row.decl) (list_all (λ d. has_io d.io) (bridges_above b h.row.path)) (all_in (λ (x : Row). not (opens_io x.decl) || list_all (λ d. has_io d.io) (bridges_above b x.path)) h.row b ways h.there) opens in
      io_reached d.io a.io.last (omega (arith, apertures.io.ends)) (all_in (λ (x : Bridge). has_io x.io) d (bridges_above b h.row.path) all (above b r d h.row.path there decl h.leads))

  pref_above : HasItems b a pref_pool r.path → MatchOption a.pref ⊤ (λ ap. ap.last < pref_reach d.pref)
  pref_above (i, m) = grind (arith, behind b a pref_pool board.paths 16 r.path i m, pref_of a, above b r d, pref_reached)

-- ---- the window of a bus

-- a bus's window is of whole units and inside the aperture
record IsPlacedWindow (a : Apertures) (pool : Pool) (first size : ℕ) : Type 0 where
  some : 0 < size
  first_whole : first % unit_of pool ≡ 0
  size_whole : size % unit_of pool ≡ 0
  inside : MatchOption (aperture_of a pool) ⊥ (λ ap. first + size ≤ ap.last + 1)

inside_of : (a : Apertures) (pool : Pool) (first size : ℕ) (o : Option Aperture) → MatchOption o ⊥ (λ ap. (ap.first ≤ first) × (first + size ≤ ap.last + 1)) → MatchOption o ⊥ (λ ap. first + size ≤ ap.last + 1)
inside_of a pool first size o h = grind arith

placed_here : (b : Board) (a : Apertures) (pool : Pool) → IsBoard b → HasLawfulDecls b → fits b a pool ≡ true → (p : Path) → 0 < length p → HasItems b a pool p
    → IsPlacedWindow a pool (bus_first b a pool p) (need (unit_of pool) (items_on b a pool p))
placed_here b a pool board lawful fit p long (i, m) =
    let there = has_window_row b a pool board lawful p long (i, m) in
    let whole : IsLawful b a (pool_rows b a pool) = pool_lawful b a pool board lawful fit in
    let aligned = each_in (λ r. IsAligned r r.what) (window_row b a pool p) (pool_rows b a pool) whole.aligned there in
    record {
      some = omega (arith, some_end (unit_of pool) i (items_on b a pool p) (items_placeable b a pool lawful p) m, end_below_need (unit_of pool) (items_on b a pool p) (unit_positive pool));
      first_whole = aligned.0;
      size_whole = aligned.1;
      inside = inside_of a pool (bus_first b a pool p) (need (unit_of pool) (items_on b a pool p)) (aperture_of a pool)
          (each_in (λ r. MatchOption (aperture_of a r.pool) ⊥ (λ ap. IsInside ap.first (ap.last + 1) r.first r.size)) (window_row b a pool p) (pool_rows b a pool) whole.in_apertures there);
    }

-- registers that hold the window of a bus with these items name its window
abbrev placed_from : ℕ → ℕ → List PlacementItem → Window
placed_from first unit is = record { first = first; last = first + need unit is - 1 }

module _ (d : Bridge) (multifunction : Bool) (r : BridgeValues) (first : ℕ) where
  io_named : (is : List PlacementItem) → r.io ≡ window_of (2 ^ 12) 0xf first is → ((i : PlacementItem) → IsIn i is → IsWhole (2 ^ 12) (io_reach d.io) (placed_from first (2 ^ 12) is)) → io_window d.io (bridge_file d multifunction r) ≡ window_over (2 ^ 12) first is
  io_named [] e whole = (closed_windows_forward_nothing d multifunction r).io e
  io_named (i ∷ is) e whole = (windows_named d multifunction r).io (subst (IsWhole (2 ^ 12) (io_reach d.io)) (sym e) (whole i (inl refl))) ∙ ap (λ s. Some s) e

  mem_named : (is : List PlacementItem) → r.mem ≡ window_of (2 ^ 20) 0xfff first is → ((i : PlacementItem) → IsIn i is → IsWhole (2 ^ 20) (2 ^ 32) (placed_from first (2 ^ 20) is)) → mem_window (bridge_file d multifunction r) ≡ window_over (2 ^ 20) first is
  mem_named [] e whole = (closed_windows_forward_nothing d multifunction r).mem e
  mem_named (i ∷ is) e whole = (windows_named d multifunction r).mem (subst (IsWhole (2 ^ 20) (2 ^ 32)) (sym e) (whole i (inl refl))) ∙ ap (λ s. Some s) e

  pref_named : (is : List PlacementItem) → r.pref ≡ window_of (2 ^ 20) 0xfff first is → ((i : PlacementItem) → IsIn i is → IsWhole (2 ^ 20) (pref_reach d.pref) (placed_from first (2 ^ 20) is)) → pref_window d.pref (bridge_file d multifunction r) ≡ window_over (2 ^ 20) first is
  pref_named [] e whole = (closed_windows_forward_nothing d multifunction r).pref e
  pref_named (i ∷ is) e whole = (windows_named d multifunction r).pref (subst (IsWhole (2 ^ 20) (pref_reach d.pref)) (sym e) (whole i (inl refl))) ∙ ap (λ s. Some s) e

module _ (b : Board) (a : Apertures) (board : IsBoard b) (lawful : HasLawfulDecls b) (apertures : IsLawfulApertures a) (ways : has_io_paths b ≡ true) (fit : (pool : Pool) → IsTrue (fits b a pool)) where
  module _ (r : Row) (there : IsIn r b) (d : Bridge) (decl : r.decl ≡ bridge d) where
    whole : (pool : Pool) → HasItems b a pool r.path → IsPlacedWindow a pool (bus_first b a pool r.path) (need (unit_of pool) (items_on b a pool r.path))
    whole pool has = placed_here b a pool board lawful (fit pool) r.path (each_in (λ (x : Row). IsPath x.path) r b board.paths there).some has

    io_placed : HasItems b a io_pool r.path → IsWhole (2 ^ 12) (io_reach d.io) (placed_from (bus_first b a io_pool r.path) (2 ^ 12) (items_on b a io_pool r.path))
    io_placed has = grind (arith, whole io_pool has, io_above b a board apertures r there d decl ways has)

    mem_placed : HasItems b a mem_pool r.path → IsWhole (2 ^ 20) (2 ^ 32) (placed_from (bus_first b a mem_pool r.path) (2 ^ 20) (items_on b a mem_pool r.path))
    mem_placed has = grind (arith, whole mem_pool has)

    pref_placed : HasItems b a pref_pool r.path → IsWhole (2 ^ 20) (pref_reach d.pref) (placed_from (bus_first b a pref_pool r.path) (2 ^ 20) (items_on b a pref_pool r.path))
    pref_placed has = grind (arith, whole pref_pool has, pref_above b a board apertures r there d decl has)

  windows : (r : Row) → IsIn r b → (d : Decl) → r.decl ≡ d → HasPlacedWindows b a r.path d
  windows r m (endpoint d) e = tt
  windows r m (bridge d) e = search (rules, io_named, io_placed, mem_named, mem_placed, pref_named, pref_placed)

pub set_up_windows : SetUpWindows
set_up_windows b a board lawful apertures ways fit = each_from (λ r. HasPlacedWindows b a r.path r.decl) b (λ r m. windows b a board lawful apertures ways fit r m r.decl refl)

-- ---- after set-up a bridge's window of a pool holds the addresses of the window that placement gave it

-- a window row of the layout is that of a bridge with items behind it
pub record IsBridgeWindow (b : Board) (a : Apertures) (w : LayoutRow) : Type 0 where
  pub is : w ≡ window_row b a w.pool w.path
  pub item : PlacementItem
  pub behind : IsIn item (items_on b a w.pool w.path)

of_row : (b : Board) (a : Apertures) (pool : Pool) (w : LayoutRow) (p : Path) (is : List PlacementItem) → is ≡ items_on b a pool p → IsIn w (window_rows b a pool p is) → IsBridgeWindow b a w
of_row b a pool w p [] e m = absurd m
of_row b a pool w p (i ∷ is) e (inl f) = subst (IsBridgeWindow b a) (sym f) (record { is = refl; item = i; behind = subst (IsIn i) e (inl refl) })
of_row b a pool w p (i ∷ is) e (inr m) = absurd m

of_function : (b : Board) (a : Apertures) (pool : Pool) (w : LayoutRow) (p : Path) (d : Decl) → w.what ≡ a_window → IsRowFor b a pool w p d → IsBridgeWindow b a w
of_function b a pool w p (endpoint d) what m = let e : w.what ≡ a_region m.0.index = ap (λ (l : LayoutRow). l.what) m.3 in cc
of_function b a pool w p (bridge d) what m = of_row b a pool w p (items_on b a pool p) refl m

pub bridge_window : (b : Board) (a : Apertures) → HasRows b a → (w : LayoutRow) → IsIn w (layout b a) → w.what ≡ a_window → IsBridgeWindow b a w
bridge_window b a has w m what = grind (arith, from_flat_map (pool_rows b a) w (io_pool ∷ mem_pool ∷ pref_pool ∷ []) m, each_in, of_function)

-- ---- a window with items holds the addresses inside it

module _ (b : Board) (a : Apertures) (p : Path) (d : Bridge) (forwards : ForwardsPlaced b a p d) (i : PlacementItem) (n : ℕ) where
  pub window_holds : (pool : Pool) → IsIn i (items_on b a pool p) → bus_first b a pool p ≤ n → n < bus_first b a pool p + need (unit_of pool) (items_on b a pool p) → is_in_window d (set_up_file b a p (bridge d)) (pool_space pool) n ≡ true
  window_holds io_pool m l u = grind (arith, le-leb)
  window_holds mem_pool m l u = grind (arith, or_left, le-leb)
  window_holds pref_pool m l u = grind (arith, or_right, le-leb)
