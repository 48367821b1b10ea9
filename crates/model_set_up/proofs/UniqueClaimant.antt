-- After set-up the claims of an address are those of the placed regions that hold it: one at most.
use Rattle.std.{proofs.{Common.{◌≡◌, ℕ, ◌+◌, ◌-◌, ◌≤◌, ◌<◌, Bool, true, false, ◌&&◌, ◌||◌, cond, List, [], ◌∷◌, Option, Some, None, refl, sym, ap, ap₂, ◌∙◌, subst, arith}, lemmas.{List.{map-append, Folds.list_all-map}, Bool.and_from}}, specs.{Prelude.{not, map, flat_map, slice_get}, Option.option_to_list}}
use Rattle.lists.{specs.Elements.{Each, EachPair, IsIn}, proofs.Members.{each_in, each_from, any_in, in_map, in_flat_map, all_from, flat_map_same, flat_map_map, flat_map_flat}}
use Rattle.model_registers.{specs.{Declarations.{Region, registers_of, IsLawfulRegion, HasLawfulRegions, Endpoint, Bridge}, DeclarationRules.IsConfigBlock, Decoding.{Space, space_of, same_space, base, is_open, Hit, hit_of}, Apertures.Apertures}, proofs.HitRegions.space_same}
use Rattle.model_board.{specs.{Board.{Board, Row, Decl, endpoint, bridge, is_bridge, has_multifunction_bit}, Paths.{Path, is_ancestor_of}, State.BoardFunction, Windows.{forwards, is_in_window}, Claims.{Claim, claim_at, claims_of, is_forwarded, claims, first_claim}, Routing.{RoutingRow, routing, is_routed, routed_claims}}, proofs.Routing.{first_listed, first_of_claims, forwarded_by_routing, claims_by_routing}}
use Rattle.model_set_up.{specs.{Pools.{Pool, unit_of, bridges_above}, Placement.{PlacementItem, need, items_on, bus_first}, Layout.{LayoutRow, IsAligned, IsLawful, layout}, Extents.IsInside, SetUp.{first_of, command_of, bridge_values, set_up_file, set_up_state}, PlacementLaws.{region_row, window_row, HasRows}, PlacedRegions.{pool_space, PlacedRegion, placed, placed_at, placed_regions, holds, claim_in, placed_claim}, UniqueClaimant.{CanBePlaced, IsClaimed, ShareNone, HasUniqueClaims, UniqueClaimant, ClaimOfRegion, ClaimInAnyOrder, RowsArePlaced}, WindowLaws.HasPlacedWindows}, proofs.{Holders.{Holds, holds_is, is_held, self_space, claims_in, one_at_most, holder_first, same_members}, SetUpRegisters.{FitsRegister, bases_read, endpoint_opens, bridge_opens}, LawfulPlacement.layout_is_lawful, DeclaredRows.one_row_per_region_or_window, BoardWindows.{set_up_windows, IsBridgeWindow, bridge_window, window_holds}, Partings.{one_row, bridge_above}, PlacedApart.{pool_of_space, WindowOver, window_over}, PlacedRegions.{source, lawful_decl, lawful_regions, region_there, placed_apart, rows_to_placed, placed_to_rows}, PlacedReads.{InAperture, fits_register}}}

-- ---- claims function by function

-- where each region's hit, if it is forwarded, is a claim, the claims of a function are those of its regions
by_region : (t : Bool) (p : Path) (hit : Region → Option Hit) (claim : Region → Option Claim) (gs : List Region) → Each (λ g. cond t (map (claim_at p) (option_to_list (hit g))) [] ≡ option_to_list (claim g)) gs
    → cond t (map (claim_at p) (flat_map (λ g. option_to_list (hit g)) gs)) [] ≡ flat_map (λ g. option_to_list (claim g)) gs
by_region t p hit claim [] h = grind arith
by_region t p hit claim (g ∷ gs) h = grind (arith, map-append, by_region true p hit claim gs, by_region false p hit claim gs)

-- a function with the cells that set-up leaves
abbrev pub left : Board → Apertures → Row → BoardFunction
left b a r = record { path = r.path; decl = r.decl; file = set_up_file b a r.path r.decl }

pub no_claims : (t : Bool) → cond {A = List Claim} t [] [] ≡ []
no_claims t = grind arith

module _ (b : Board) (a : Apertures) (can : CanBePlaced b a) (lawful : IsLawful b a (layout b a)) (has : HasRows b a) where
  pub bases : (r : Row) (e : Endpoint) → IsIn r b → r.decl ≡ endpoint e → Each (λ g. base (set_up_file b a r.path (endpoint e)) g.index g.kind ≡ first_of b a r.path g) e.regions
  bases r e m decl_is =
      let regions : HasLawfulRegions e.regions = lawful_regions b can.declarations r e m decl_is in
      bases_read e (has_multifunction_bit b r.path) (command_of e) (first_of b a r.path) (each_from (λ k. 0x34 ≤ k.offset) e.blocks (λ k i. (each_in IsConfigBlock k e.blocks (lawful_decl b can.declarations r e m decl_is).config_blocks i).begins)) regions.in_order
      (each_from (λ g. g.index + registers_of g.kind ≤ 6) e.regions (λ g k. (each_in IsLawfulRegion g e.regions regions.each k).registers))
      (each_from (λ g. FitsRegister g.kind (first_of b a r.path g)) e.regions (λ g k.
      let there : IsIn (region_row b a r.path g) (layout b a) = region_there b a has r e g m decl_is k in
      fits_register a (bridges_above b r.path) g (region_row b a r.path g) can.apertures (each_in IsLawfulRegion g e.regions regions.each k) refl
      (each_in (λ (l : LayoutRow). IsAligned l l.what) (region_row b a r.path g) (layout b a) lawful.aligned there)
      (each_in (λ (l : LayoutRow). InAperture a l.pool l) (region_row b a r.path g) (layout b a) lawful.in_apertures there)))

module _ (b : Board) (a : Apertures) (can : CanBePlaced b a) (lawful : IsLawful b a (layout b a)) (has : HasRows b a) (windows : Each (λ r. HasPlacedWindows b a r.path r.decl) b) where
  -- a bridge above a row of the layout has a window that holds the row's addresses
  bridge_forwards : (l : LayoutRow) (p : Path) (d : Bridge) (n : ℕ) → IsIn l (layout b a) → IsIn (record { path = p; decl = bridge d }) b → is_ancestor_of p l.path ≡ true → l.first ≤ n → n < l.first + l.size → is_in_window d (set_up_file b a p (bridge d)) (pool_space l.pool) n ≡ true
  bridge_forwards l p d n m k h low high = by_window (window_over b a can.places (layout b a) lawful l (record { path = p; decl = bridge d }) m k h)
    where
      by_row : (w : LayoutRow) → w ≡ window_row b a l.pool p → (i : PlacementItem) → IsIn i (items_on b a l.pool p) → IsInside w.first (w.first + w.size) l.first l.size → is_in_window d (set_up_file b a p (bridge d)) (pool_space l.pool) n ≡ true
      by_row w is i behind inside =
          let within : IsInside (bus_first b a l.pool p) (bus_first b a l.pool p + need (unit_of l.pool) (items_on b a l.pool p)) l.first l.size = subst (λ (x : LayoutRow). IsInside x.first (x.first + x.size) l.first l.size) is inside in
          window_holds b a p d (each_in (λ (r : Row). HasPlacedWindows b a r.path r.decl) (record { path = p; decl = bridge d }) b windows k) i n l.pool behind (omega (arith, within.0)) (omega (arith, within.1))

      by_window : WindowOver (layout b a) l p → is_in_window d (set_up_file b a p (bridge d)) (pool_space l.pool) n ≡ true
      by_window w =
          let g : IsBridgeWindow b a w.row = bridge_window b a has w.row w.there w.what_is in
          by_row w.row (g.is ∙ ap₂ (window_row b a) w.pool_is w.path_is) g.item (subst (λ (x : Pool). IsIn g.item (items_on b a x p)) w.pool_is (subst (λ (x : Path). IsIn g.item (items_on b a w.row.pool x)) w.path_is g.behind)) w.inside

  -- ---- every bridge above a placed region forwards its addresses

  module _ (r : Row) (e : Endpoint) (g : Region) (on_board : IsIn r b) (decl_is : r.decl ≡ endpoint e) (declared : IsIn g e.regions) where
    abbrev row : LayoutRow
    row = region_row b a r.path g

    in_layout : IsIn row (layout b a)
    in_layout = region_there b a has r e g on_board decl_is declared

    by_bridge : (p : Path) (d : Bridge) (n : ℕ) → IsIn (record { path = p; decl = bridge d }) b → is_ancestor_of p r.path ≡ true → row.first ≤ n → n < row.first + row.size → forwards (space_of g.kind) n (left b a (record { path = p; decl = bridge d })) ≡ true
    by_bridge p d n m h low high =
        let opened : is_open (set_up_file b a p (bridge d)) (space_of g.kind) ≡ true = bridge_opens d (has_multifunction_bit b p) (bridge_values b a p) (space_of g.kind) refl in
        let held : is_in_window d (set_up_file b a p (bridge d)) (space_of g.kind) n ≡ true =
        subst (λ (x : Space). is_in_window d (set_up_file b a p (bridge d)) x n ≡ true) (pool_of_space a (bridges_above b r.path) g.kind) (bridge_forwards row p d n in_layout m h low high) in
        and_from (is_open (set_up_file b a p (bridge d)) (space_of g.kind)) (is_in_window d (set_up_file b a p (bridge d)) (space_of g.kind) n) opened held

    by_decl : (p : Path) (d : Decl) (n : ℕ) → is_bridge d ≡ true → IsIn (record { path = p; decl = d }) b → is_ancestor_of p r.path ≡ true → row.first ≤ n → n < row.first + row.size → forwards (space_of g.kind) n (left b a (record { path = p; decl = d })) ≡ true
    by_decl p (endpoint d) n is m h low high = cc
    by_decl p (bridge d) n is m h low high = by_bridge p d n m h low high

    by_row : (s : Row) (n : ℕ) → IsIn s b → row.first ≤ n → n < row.first + row.size → (t : Bool) → is_ancestor_of s.path r.path ≡ t → (not t || forwards (space_of g.kind) n (left b a s)) ≡ true
    by_row s n m low high t h = grind (arith, each_in, bridge_above, one_row, by_decl)

    forwarded : (n : ℕ) → row.first ≤ n → n < row.first + row.size → is_forwarded (set_up_state b a).functions r.path (space_of g.kind) n ≡ true
    forwarded n low high = grind (arith, list_all-map, all_from, by_row)

  -- ---- an endpoint decodes where its regions are placed

  drop_open : (o t u v : Bool) → (t ≡ true → o ≡ true) → (o && t && u && v) ≡ (t && u && v)
  drop_open o t u v h = grind arith

  -- a region's hit is that of its place
  hit_is : (r : Row) (e : Endpoint) (g : Region) (space : Space) (n : ℕ) → IsIn r b → r.decl ≡ endpoint e → IsIn g e.regions
      → hit_of (set_up_file b a r.path (endpoint e)) space n g ≡ cond (holds space n (placed b a r.path g)) (Some (record { index = g.index; offset = n - first_of b a r.path g })) None
  hit_is r e g space n m decl_is k =
      grind (arith, endpoint_opens e (has_multifunction_bit b r.path) (first_of b a r.path) space, any_in, each_in, bases b a can lawful has r e m decl_is, drop_open)

  -- a hit of a placed region is a claim: it is forwarded
  hit_is_claim : (r : Row) (e : Endpoint) (g : Region) (space : Space) (n : ℕ) → IsIn r b → r.decl ≡ endpoint e → IsIn g e.regions
      → cond (is_forwarded (set_up_state b a).functions r.path space n) (map (claim_at r.path) (option_to_list (hit_of (set_up_file b a r.path (endpoint e)) space n g))) [] ≡ option_to_list (claim_in space n (placed b a r.path g))
  hit_is_claim r e g space n m decl_is k =
      ap (λ (h : Option Hit). cond t (map (claim_at r.path) (option_to_list h)) []) (hit_is r e g space n m decl_is k) ∙ by_test (holds space n (placed b a r.path g)) refl
    where
      t : Bool
      t = is_forwarded (set_up_state b a).functions r.path space n

      by_test : (u : Bool) → holds space n (placed b a r.path g) ≡ u
          → cond t (map (claim_at r.path) (option_to_list (cond u (Some (record { index = g.index; offset = n - first_of b a r.path g })) None))) [] ≡ option_to_list (cond u (Some (record { path = r.path; index = g.index; offset = n - first_of b a r.path g })) None)
      by_test u h = grind (arith, holds_is, space_same, forwarded, no_claims)

  -- ---- all claims are those of placed regions

  function_claims : (space : Space) (n : ℕ) (p : Path) (d : Decl) → IsIn (record { path = p; decl = d }) b
      → claims_of (set_up_state b a).functions space n (left b a (record { path = p; decl = d })) ≡ claims_in space n (placed_at b a (record { path = p; decl = d }))
  function_claims space n p (bridge d) m = no_claims (is_forwarded (set_up_state b a).functions p space n)
  function_claims space n p (endpoint e) m =
      by_region (is_forwarded (set_up_state b a).functions p space n) p (hit_of (set_up_file b a p (endpoint e)) space n) (λ g. claim_in space n (placed b a p g)) e.regions
      (each_from (λ g. cond (is_forwarded (set_up_state b a).functions p space n) (map (claim_at p) (option_to_list (hit_of (set_up_file b a p (endpoint e)) space n g))) [] ≡ option_to_list (claim_in space n (placed b a p g))) e.regions
      (λ g k. hit_is_claim (record { path = p; decl = endpoint e }) e g space n m refl k))
      ∙ sym (flat_map_map (λ q. option_to_list (claim_in space n q)) (placed b a p) e.regions)

  apart : EachPair ShareNone (placed_regions b a)
  apart = placed_apart b a can.places can.declarations can.apertures lawful has

  set_up_claims : (space : Space) (n : ℕ) → claims (set_up_state b a).functions space n ≡ option_to_list (placed_claim b a space n)
  set_up_claims space n =
      flat_map_map (claims_of (set_up_state b a).functions space n) (left b a) b
      ∙ flat_map_same (λ r. claims_of (set_up_state b a).functions space n (left b a r)) (λ r. claims_in space n (placed_at b a r)) b (λ r m. function_claims space n r.path r.decl m)
      ∙ sym (flat_map_flat (λ q. option_to_list (claim_in space n q)) (placed_at b a) b)
      ∙ one_at_most space n (placed_regions b a) apart

  module _ (fs : List BoardFunction) (same : routing fs ≡ routing (set_up_state b a).functions) where
    only : (space : Space) (n : ℕ) → claims fs space n ≡ option_to_list (placed_claim b a space n)
    only space n = claims_by_routing fs space n ∙ ap (λ (rows : List RoutingRow). routed_claims rows space n) same ∙ sym (claims_by_routing (set_up_state b a).functions space n) ∙ set_up_claims space n

    first : (space : Space) (n : ℕ) → first_claim fs space n ≡ placed_claim b a space n
    first space n = first_of_claims fs space n ∙ ap (λ (cs : List Claim). slice_get cs 0) (only space n) ∙ sym (first_listed (placed_claim b a space n))

    way : (p : Path) (space : Space) (n : ℕ) → is_forwarded fs p space n ≡ is_forwarded (set_up_state b a).functions p space n
    way p space n = forwarded_by_routing fs p space n ∙ ap (λ (rows : List RoutingRow). is_routed rows p space n) same ∙ sym (forwarded_by_routing (set_up_state b a).functions p space n)

    claimed : (q : PlacedRegion) → IsIn q (placed_regions b a) → same_space q.space q.space ≡ true → (k : ℕ) → k < q.size → first_claim fs q.space (q.first + k) ≡ Some (record { path = q.path; index = q.index; offset = k })
    claimed q m self k small =
        let held : Holds q.space (q.first + k) q = record { space_is = self; from = omega arith; below = omega arith } in
        let offset : q.first + k - q.first ≡ k = omega arith in
        first q.space (q.first + k) ∙ holder_first q.space (q.first + k) q (placed_regions b a) apart m held
        ∙ ap (λ (t : Bool). cond t (Some (record { path = q.path; index = q.index; offset = q.first + k - q.first })) None) (is_held q.space (q.first + k) q held)
        ∙ ap (λ (x : ℕ). Some (record { path = q.path; index = q.index; offset = x })) offset

    byte : (q : PlacedRegion) → IsIn q (placed_regions b a) → (k : ℕ) → k < q.size → IsClaimed fs q k
    byte q m k small = grind (arith, forwarded, source, claimed, self_space, way)

    unique : HasUniqueClaims b a fs
    unique = record { only = only; first = first; each_byte = each_from (λ q. (k : ℕ) → k < q.size → IsClaimed fs q k) (placed_regions b a) byte; apart = apart }

pub set_up_gives_unique_claimants : UniqueClaimant
set_up_gives_unique_claimants b a can fs same = unique b a can (layout_is_lawful b a can.places can.declarations can.room) (one_row_per_region_or_window b a can.places can.declarations) (set_up_windows b a can.places can.declarations can.apertures can.io_paths can.room) fs same

pub claim_of_region : ClaimOfRegion
claim_of_region b a can fs same p d on_board r declared k inside =
    let row : Row = record { path = p; decl = endpoint d } in
    let there : IsIn (placed b a p r) (placed_regions b a) = in_flat_map (placed_at b a) row (placed b a p r) b on_board (in_map (placed b a p) r d.regions declared) in
    grind (arith, set_up_gives_unique_claimants, each_in)

pub claim_in_any_order : ClaimInAnyOrder
claim_in_any_order b a can qs same space n = grind (arith, same_members, placed_apart, layout_is_lawful, one_row_per_region_or_window)

pub rows_are_placed : RowsArePlaced
rows_are_placed b a board decls q = (rows_to_placed b a (one_row_per_region_or_window b a board decls) q, placed_to_rows b a (one_row_per_region_or_window b a board decls) q)
