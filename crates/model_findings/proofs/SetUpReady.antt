-- What set-up leaves lacks nothing.
use Rattle.std.{proofs.{Common.{◌≡◌, ℕ, ◌+◌, ◌≤◌, ◌<◌, ◌⊎◌, true, false, List, [], ◌∷◌, Option, refl, sym, ◌∙◌, subst, arith, rules}, lemmas.Bool.Decides.nat_tests}, specs.Prelude.{map, filter, IsTrue}}
use Rattle.lists.{specs.Elements.{Each, IsIn}, proofs.Members.{each_in, each_from, from_flat_map, from_map, from_filter, any_in, none_front, each_none}}
use Rattle.model_registers.specs.{Apertures.{Aperture, Apertures}, Declarations.{Region, Endpoint}, Decoding.{Space, base_address, space_of, same_space, opens_space}, EndpointTable.BaseAddress, Registers.File}
use Rattle.model_board.specs.{Board.{Board, Row, Decl, endpoint, bridge, is_bridge, is_bridge_at, has_multifunction_bit}, BusNumbers.{Enumerates, bus_behind}, Paths.{Path, IsPath, parent}, State.BoardFunction, Routing.{RoutingRow, row_of, routing}, Windows.is_in}
use Rattle.model_set_up.{specs.{Pools.{Pool, pref_pool, bridges_above}, Layout.{LayoutRow, IsLawful, layout}, PlacementLaws.{pool_at, region_row, HasRows}, PlacedRegions.{PlacedRegion, placed, pool_space, holds}, SetUp.{first_of, set_up_file, set_up_state}, UniqueClaimant.CanBePlaced, WindowLaws.{placed_window, HasPlacedWindows}}, proofs.{Holders.{Holds, holds_is, self_space}, PlacedApart.pool_of_space, PlacedReads.InAperture, PlacedRegions.region_there, SetUpNumbers.{numbers_small, set_up_has_numbers}, SetUpRegisters.endpoint_opens, UniqueClaimant.{bases, left}, LawfulPlacement.layout_is_lawful, DeclaredRows.one_row_per_region_or_window, BoardWindows.set_up_windows}}
use Rattle.model_findings.{specs.{OpenRegions.{region_now, regions_of, open_of, open_regions}, Found.current_bus_number, ReadinessIssues.{primary_register, is_in_apertures, is_non_prefetchable_memory, plain_of, plain_regions, prefetches, primary_bus_issue, readiness_issues}, ReadyLaws.{IsWithinApertures, PrefetchesNone, LacksNothing, SetUpIsReady, ReadyAsSetUp}}, proofs.{Found.numbers_of_board, Holding.window_row_held, Placing.regions_placed, SetUpPasses.{set_up_passes_the_audit, routed_as_set_up}, Lacks.nothing_lacking}}

-- ---- apertures

-- the addresses of a row of the layout lie in an aperture of its space
row_within : (i m : Aperture) (o : Option Aperture) (pool : Pool) (l : LayoutRow) (n : ℕ) → InAperture (record { io = i; mem = m; pref = o }) pool l → l.first ≤ n → n < l.first + l.size
    → is_in_apertures (record { io = i; mem = m; pref = o }) (pool_space pool) n ≡ true
row_within i m o pool l n h from below = grind (arith, nat_tests)

module _ (b : Board) (a : Apertures) (few : Enumerates b) (can : CanBePlaced b a) (lawful : IsLawful b a (layout b a)) (has : HasRows b a) (given : Each (λ r. HasPlacedWindows b a r.path r.decl) b) where
  abbrev fs : List BoardFunction
  fs = (set_up_state b a).functions

  -- each function is that of a row of the board
  of_function : (f : BoardFunction) → IsIn f fs → (s : Row) × IsIn s b × (f ≡ left b a s)
  of_function f m = from_map (left b a) f b m

  of_row : (r : RoutingRow) → IsIn r (routing fs) → (s : Row) × IsIn s b × (r ≡ row_of (left b a s))
  of_row r m = grind (arith, from_map, of_function)

  -- ---- open

  placed_opens : (p : Path) (d : Endpoint) (g : Region) → IsIn g d.regions → opens_space (row_of (left b a (record { path = p; decl = endpoint d }))).command (space_of g.kind) ≡ true
  placed_opens p d g k = endpoint_opens d (has_multifunction_bit b p) (first_of b a p) (space_of g.kind) ∙ any_in (λ (x : Region). same_space (space_of x.kind) (space_of g.kind)) g d.regions k (self_space (space_of g.kind))

  opened : (p : Path) (d : Decl) → IsIn (record { path = p; decl = d }) b → Each (λ q. IsTrue (opens_space (row_of (left b a (record { path = p; decl = d }))).command q.space)) (regions_of (row_of (left b a (record { path = p; decl = d }))))
  opened p (bridge d) m = tt
  opened p (endpoint d) m = each_from (λ q. IsTrue (opens_space (row_of (left b a (record { path = p; decl = endpoint d }))).command q.space)) (regions_of (row_of (left b a (record { path = p; decl = endpoint d })))) one
    where
      of : (q : PlacedRegion) → (g : Region) × IsIn g d.regions × (q ≡ placed b a p g) → opens_space (row_of (left b a (record { path = p; decl = endpoint d }))).command q.space ≡ true
      of q (g, k, e) = subst (λ (x : PlacedRegion). opens_space (row_of (left b a (record { path = p; decl = endpoint d }))).command x.space ≡ true) (sym e) (placed_opens p d g k)

      one : (q : PlacedRegion) → IsIn q (regions_of (row_of (left b a (record { path = p; decl = endpoint d })))) → opens_space (row_of (left b a (record { path = p; decl = endpoint d }))).command q.space ≡ true
      one q k = of q (from_map (placed b a p) q d.regions (subst (IsIn q) (regions_placed b a can lawful has p (endpoint d) m) k))

  -- ---- within the apertures

  region_inside : (p : Path) (d : Endpoint) (g : Region) → IsIn (record { path = p; decl = endpoint d }) b → IsIn g d.regions → InAperture a (pool_at b a p g) (region_row b a p g)
  region_inside p d g m k = each_in (λ (l : LayoutRow). InAperture a l.pool l) (region_row b a p g) (layout b a) lawful.in_apertures (region_there b a has (record { path = p; decl = endpoint d }) d g m refl k)

  placed_within : (p : Path) (d : Endpoint) (g : Region) → IsIn (record { path = p; decl = endpoint d }) b → IsIn g d.regions → IsWithinApertures a (placed b a p g)
  placed_within p d g m k n h =
      let held : Holds (space_of g.kind) n (placed b a p g) = holds_is (space_of g.kind) n (placed b a p g) h in
      subst (λ (x : Space). is_in_apertures a x n ≡ true) (pool_of_space a (bridges_above b p) g.kind) (row_within a.io a.mem a.pref (pool_at b a p g) (region_row b a p g) n (region_inside p d g m k) held.from held.below)

  open_within : (p : Path) (d : Decl) (q : PlacedRegion) → IsIn (record { path = p; decl = d }) b → IsIn q (open_of (row_of (left b a (record { path = p; decl = d })))) → IsWithinApertures a q
  open_within p (bridge d) q m k = absurd k
  open_within p (endpoint d) q m k =
      grind (arith, from_map (placed b a p) q d.regions, regions_placed b a can lawful has p (endpoint d) m, from_filter, placed_within)

  -- ---- what isn't prefetchable isn't prefetched

  -- no prefetchable window has an address of a region that isn't prefetchable
  no_window : (p t : Path) (d : Endpoint) (g : Region) (n : ℕ) → IsIn (record { path = p; decl = endpoint d }) b → IsIn g d.regions → is_non_prefetchable_memory g.kind ≡ true → holds (space_of g.kind) n (placed b a p g) ≡ true → IsPath t → is_in n (placed_window b a pref_pool t) ≡ false
  no_window p t d g n m k plain h path =
      grind (arith, holds_is (space_of g.kind) n (placed b a p g) h, region_inside p d g m k, window_row_held b a can t pref_pool n path, each_in)

  bridge_prefetches_none : (p t : Path) (d : Endpoint) (e : Decl) (g : Region) (n : ℕ) → IsIn (record { path = p; decl = endpoint d }) b → IsIn (record { path = t; decl = e }) b → IsIn g d.regions → is_non_prefetchable_memory g.kind ≡ true → holds (space_of g.kind) n (placed b a p g) ≡ true → prefetches n (row_of (left b a (record { path = t; decl = e }))) ≡ false
  bridge_prefetches_none p t d (endpoint e) g n m l k plain h = refl
  bridge_prefetches_none p t d (bridge e) g n m l k plain h = grind (arith, each_in, no_window p t d g n m k plain h)

  -- a region that isn't prefetchable stands where it was placed
  record Plain (p : Path) (d : Endpoint) (q : PlacedRegion) : Type 0 where
    region : Region
    declared : IsIn region d.regions
    plain : is_non_prefetchable_memory region.kind ≡ true
    is : q ≡ placed b a p region

  plain_source : (p : Path) (d : Endpoint) (q : PlacedRegion) → IsIn (record { path = p; decl = endpoint d }) b → IsIn q (plain_of (row_of (left b a (record { path = p; decl = endpoint d })))) → Plain p d q
  plain_source p d q m k = of_filter (from_filter (λ (x : PlacedRegion). opens_space (row_of (left b a (record { path = p; decl = endpoint d }))).command x.space) q (map (region_now p) (filter (λ (x : BaseAddress). is_non_prefetchable_memory x.kind) (map (base_address (set_up_file b a p (endpoint d))) d.regions))) k).0
    where
      file : File
      file = set_up_file b a p (endpoint d)

      placed_is : (g : Region) → IsIn g d.regions → region_now p (base_address (set_up_file b a p (endpoint d)) g) ≡ placed b a p g
      placed_is g l = grind (arith, each_in, bases b a can lawful has (record { path = p; decl = endpoint d }) d m refl)

      of_region : (x : BaseAddress) → q ≡ region_now p x → is_non_prefetchable_memory x.kind ≡ true → (g : Region) × IsIn g d.regions × (x ≡ base_address (set_up_file b a p (endpoint d)) g) → Plain p d q
      of_region x e plain (g, l, i) = grind (arith, placed_is)

      of_filter : IsIn q (map (region_now p) (filter (λ (x : BaseAddress). is_non_prefetchable_memory x.kind) (map (base_address (set_up_file b a p (endpoint d))) d.regions))) → Plain p d q
      of_filter l =
          let f = from_map (region_now p) q (filter (λ (x : BaseAddress). is_non_prefetchable_memory x.kind) (map (base_address (set_up_file b a p (endpoint d))) d.regions)) l in
          grind (arith, from_filter, of_region, from_map (base_address (set_up_file b a p (endpoint d))) f.0 d.regions)

  plain_unprefetched : (p : Path) (d : Decl) (q : PlacedRegion) → IsIn (record { path = p; decl = d }) b → IsIn q (plain_of (row_of (left b a (record { path = p; decl = d })))) → Each (PrefetchesNone q) (routing fs)
  plain_unprefetched p (bridge d) q m k = absurd k
  plain_unprefetched p (endpoint d) q m k = each_from (PrefetchesNone q) (routing fs) (λ r l. of r (of_row r l) (plain_source p d q m k))
    where
      of : (r : RoutingRow) → (s : Row) × IsIn s b × (r ≡ row_of (left b a s)) → Plain p d q → PrefetchesNone q r
      of r (s, l, e) o = grind (arith, bridge_prefetches_none)

  -- ---- Primary Bus Numbers

  bus_small : (p : Path) → (p ≡ []) ⊎ (is_bridge_at b p ≡ true) → bus_behind b p < 256
  bus_small [] h = omega arith
  bus_small (x ∷ p) h = search (rules, numbers_small)

  primary : (f : BoardFunction) → IsIn f fs → is_bridge f.decl ≡ true → primary_register f.file ≡ current_bus_number fs (parent f.path)
  primary f m is = grind (arith, of_function, bus_small, each_in, numbers_of_board b can.places fs (set_up_has_numbers b a few))

  -- ---- nothing is lacking

  lacks_nothing : LacksNothing a fs
  lacks_nothing = record {
    open_all = each_from (λ r. Each (λ q. IsTrue (opens_space r.command q.space)) (regions_of r)) (routing fs) open_row;
    within = each_from (IsWithinApertures a) (open_regions (routing fs)) within;
    unprefetched = each_from (λ q. Each (PrefetchesNone q) (routing fs)) (plain_regions (routing fs)) unprefetched;
    primaries = each_from (λ f. IsTrue (is_bridge f.decl) → primary_register f.file ≡ current_bus_number fs (parent f.path)) fs primary;
  }
    where
      open_row : (r : RoutingRow) → IsIn r (routing fs) → Each (λ q. IsTrue (opens_space r.command q.space)) (regions_of r)
      open_row r m = let s = of_row r m in subst (λ (x : RoutingRow). Each (λ q. IsTrue (opens_space x.command q.space)) (regions_of x)) (sym s.2) (opened s.0.path s.0.decl s.1)

      within : (q : PlacedRegion) → IsIn q (open_regions (routing fs)) → IsWithinApertures a q
      within q m =
          let f = from_flat_map open_of q (routing fs) m in
          let s = of_row f.0 f.1 in
          open_within s.0.path s.0.decl q s.1 (subst (λ (x : RoutingRow). IsIn q (open_of x)) s.2 f.2)

      unprefetched : (q : PlacedRegion) → IsIn q (plain_regions (routing fs)) → Each (PrefetchesNone q) (routing fs)
      unprefetched q m =
          let f = from_flat_map plain_of q (routing fs) m in
          let s = of_row f.0 f.1 in
          plain_unprefetched s.0.path s.0.decl q s.1 (subst (λ (x : RoutingRow). IsIn q (plain_of x)) s.2 f.2)

routing_ready : (b : Board) (a : Apertures) → Enumerates b → CanBePlaced b a → readiness_issues a (set_up_state b a).functions ≡ []
routing_ready b a few can = grind (arith, nothing_lacking, lacks_nothing, layout_is_lawful, one_row_per_region_or_window, set_up_windows)

pub set_up_leaves_board_ready : SetUpIsReady
set_up_leaves_board_ready b a few can = record { no_problems = set_up_passes_the_audit b a few can; no_issues = routing_ready b a few can }

pub ready_as_set_up : ReadyAsSetUp
ready_as_set_up b a few can fs same numbers primaries =
    grind (arith, routed_as_set_up, none_front, routing_ready b a few can, each_none (primary_bus_issue fs) fs, each_from, each_in, numbers_of_board b can.places fs numbers)
