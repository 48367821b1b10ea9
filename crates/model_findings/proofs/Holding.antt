-- What answers an address after set-up has a row of the layout that holds it, and two rows of one bus hold no address of
-- one space both.
use Rattle.std.proofs.{Common.{◌≡◌, ℕ, ◌+◌, ◌-◌, ◌≤◌, ◌<◌, ◌⊎◌, inl, inr, true, List, [], ◌∷◌, Option, MatchOption, refl, sym, ap, ◌∙◌, subst, arith, leb}, lemmas.Bool.{leb-true, or_cases}}
use Rattle.lists.{specs.Elements.{Each, IsIn}, proofs.{Tests.{left_true, right_true}, Members.{each_in, in_flat_map, from_map, from_filter, pair_in}}}
use Rattle.model_registers.{specs.{Registers.File, Apertures.{IsLawfulApertures, IsPrefOption, Aperture, Apertures}, Declarations.{Region, Endpoint, Bridge}, Decoding.{Space, io, memory, space_of, opens_space, command_word}}, proofs.HitRegions.space_same}
use Rattle.model_board.{specs.{Board.{Board, Row, Decl, endpoint, bridge}, Paths.{Path, path_before, parent, IsPath}, Windows.{is_in, in_windows, io_window, mem_window, pref_window}, Routing.{RoutingRow, row_of, row_forwards}}, proofs.PathEnds.{path_self, not_before_itself}}
use Rattle.model_set_up.{specs.{Pools.{Pool, io_pool, mem_pool, pref_pool, unit_of, bridges_above}, Extents.{IsInside, AreApart}, Placement.{PlacementItem, need, items_on, bus_first}, Layout.{LayoutRow, IsLawful, pool_rows, layout}, PlacementLaws.{region_row, window_row, HasRows}, WindowLaws.{window_over, placed_window, ForwardsPlaced, HasPlacedWindows}, SetUp.set_up_file, PlacedRegions.{pool_space, PlacedRegion, placed, holds}, UniqueClaimant.CanBePlaced}, proofs.{Holders.{Holds, holds_is}, PlacedApart.pool_of_space, PlacedRegions.{region_there, each_pool}, DeclaredRows.has_window_row, Items.{some_end, end_below_need, items_placeable}, Nesting.HasItems, Packing.unit_positive, LawfulPlacement.pool_self, UniqueClaimant.left}}
use Rattle.model_findings.{specs.{OpenRegions.open_of, Agents.{Agent, region_agent, bridge_agent, agents_of, answers}}, proofs.{Answering.{bridge_answers, region_answers}, Placing.regions_placed}}

-- ---- rows of one bus

pools_same : (p q : Pool) → pool_space p ≡ pool_space q → (p ≡ q) ⊎ (((p ≡ mem_pool) × (q ≡ pref_pool)) ⊎ ((p ≡ pref_pool) × (q ≡ mem_pool)))
pools_same p q e = grind arith

-- a row of the layout that holds an address of a space, at a path
pub record HeldAt (b : Board) (a : Apertures) (p : Path) (space : Space) (n : ℕ) : Type 0 where
  pub row : LayoutRow
  pub there : IsIn row (layout b a)
  pub path_is : row.path ≡ p
  pub space_is : pool_space row.pool ≡ space
  pub from : row.first ≤ n
  pub below : n < row.first + row.size

module _ (b : Board) (a : Apertures) (apertures : IsLawfulApertures a) (lawful : IsLawful b a (layout b a)) where
  not_apart : (r s : LayoutRow) (n : ℕ) → AreApart r.first r.size s.first s.size → r.first ≤ n → n < r.first + r.size → s.first ≤ n → n < s.first + s.size → ⊥
  not_apart r s n e h k l m = grind arith

  -- memory and prefetchable apertures share no address
  mem_or_pref : (o : Option Aperture) (n : ℕ) (r s : LayoutRow) → IsPrefOption a.mem o → IsInside a.mem.first (a.mem.last + 1) r.first r.size → MatchOption o ⊥ (λ ap. IsInside ap.first (ap.last + 1) s.first s.size)
      → r.first ≤ n → n < r.first + r.size → s.first ≤ n → n < s.first + s.size → ⊥
  mem_or_pref o n r s h k l e f g i = grind arith

  -- two functions of one bus don't both hold an address
  pub one_holds : (p q : Path) (space : Space) (n : ℕ) → path_before p q ≡ true → parent p ≡ parent q → HeldAt b a p space n → HeldAt b a q space n → ⊥
  one_holds p q space n before bus v w = grind (arith, pools_same, not_before_itself, pool_self, path_self, not_apart, pair_in, mem_or_pref, each_in)

-- ---- windows that placement gave

module _ (b : Board) (a : Apertures) (can : CanBePlaced b a) where
  -- it is a row of its pool
  pub window_row_held : (p : Path) (pool : Pool) (n : ℕ) → IsPath p → is_in n (placed_window b a pool p) ≡ true → IsIn (window_row b a pool p) (layout b a) × (bus_first b a pool p ≤ n) × (n < bus_first b a pool p + need (unit_of pool) (items_on b a pool p))
  window_row_held p pool n lawful_path h = by (items_on b a pool p) refl h
    where
      by : (is : List PlacementItem) → items_on b a pool p ≡ is → is_in n (window_over (unit_of pool) (bus_first b a pool p) is) ≡ true → IsIn (window_row b a pool p) (layout b a) × (bus_first b a pool p ≤ n) × (n < bus_first b a pool p + need (unit_of pool) (items_on b a pool p))
      by [] e k = cc
      by (i ∷ is) e k =
          let size : need (unit_of pool) (items_on b a pool p) ≡ need (unit_of pool) (i ∷ is) = ap (need (unit_of pool)) e in
          let from : bus_first b a pool p ≤ n = leb-true (bus_first b a pool p) n (left_true (leb (bus_first b a pool p) n) (leb n (bus_first b a pool p + need (unit_of pool) (i ∷ is) - 1)) k) in
          let to : n ≤ bus_first b a pool p + need (unit_of pool) (i ∷ is) - 1 = leb-true n (bus_first b a pool p + need (unit_of pool) (i ∷ is) - 1) (right_true (leb (bus_first b a pool p) n) (leb n (bus_first b a pool p + need (unit_of pool) (i ∷ is) - 1)) k) in
          let some : 0 < need (unit_of pool) (items_on b a pool p) = some_need (i, subst (IsIn i) (sym e) (inl refl)) in
          (in_flat_map (pool_rows b a) pool (window_row b a pool p) (io_pool ∷ mem_pool ∷ pref_pool ∷ []) (each_pool pool) (has_window_row b a pool can.places can.declarations p lawful_path.some (i, subst (IsIn i) (sym e) (inl refl))), from, omega (arith, size, to, some))
        where
          some_need : HasItems b a pool p → 0 < need (unit_of pool) (items_on b a pool p)
          some_need (j, m) = omega (arith, some_end (unit_of pool) j (items_on b a pool p) (items_placeable b a pool can.declarations p) m, end_below_need (unit_of pool) (items_on b a pool p) (unit_positive pool))

-- ---- agents

module _ (b : Board) (a : Apertures) (can : CanBePlaced b a) (lawful : IsLawful b a (layout b a)) (has : HasRows b a) (windows : Each (λ r. HasPlacedWindows b a r.path r.decl) b) where
  -- a placed region
  region_held : (p : Path) (e : Endpoint) (g : Region) (space : Space) (n : ℕ) → IsIn (record { path = p; decl = endpoint e }) b → IsIn g e.regions → holds space n (placed b a p g) ≡ true → HeldAt b a p space n
  region_held p e g space n m k h =
      let held : Holds space n (placed b a p g) = holds_is space n (placed b a p g) h in record {
        row = region_row b a p g;
        there = region_there b a has (record { path = p; decl = endpoint e }) e g m refl k;
        path_is = refl;
        space_is = pool_of_space a (bridges_above b p) g.kind ∙ space_same (space_of g.kind) space held.space_is;
        from = held.from;
        below = held.below;
      }

  -- a window that placement gave
  window_held : (p : Path) (pool : Pool) (n : ℕ) → IsPath p → is_in n (placed_window b a pool p) ≡ true → HeldAt b a p (pool_space pool) n
  window_held p pool n path h =
      let w = window_row_held b a can p pool n path h in
      record { row = window_row b a pool p; there = w.0; path_is = refl; space_is = refl; from = w.1; below = w.2 }

  -- what a bridge forwards
  bridge_held : (p : Path) (d : Bridge) (space : Space) (n : ℕ) → IsIn (record { path = p; decl = bridge d }) b → row_forwards space n (row_of (left b a (record { path = p; decl = bridge d }))) ≡ true → HeldAt b a p space n
  bridge_held p d space n m h = by space (right_true (opens_space (command_word file) space) (in_windows (io_window d.io file) (mem_window file) (pref_window d.pref file) space n) h)
    where
      file : File
      file = set_up_file b a p (bridge d)

      path : IsPath p
      path = each_in (λ (r : Row). IsPath r.path) (record { path = p; decl = bridge d }) b can.places.paths m

      placed_windows : ForwardsPlaced b a p d
      placed_windows = each_in (λ (r : Row). HasPlacedWindows b a r.path r.decl) (record { path = p; decl = bridge d }) b windows m

      by : (space : Space) → in_windows (io_window d.io (set_up_file b a p (bridge d))) (mem_window (set_up_file b a p (bridge d))) (pref_window d.pref (set_up_file b a p (bridge d))) space n ≡ true → HeldAt b a p space n
      by io k = window_held p io_pool n path (sym (ap (is_in n) placed_windows.io) ∙ k)
      by memory k = of (or_cases (is_in n (mem_window (set_up_file b a p (bridge d)))) (is_in n (pref_window d.pref (set_up_file b a p (bridge d)))) k)
        where
          of : (is_in n (mem_window (set_up_file b a p (bridge d))) ≡ true) ⊎ (is_in n (pref_window d.pref (set_up_file b a p (bridge d))) ≡ true) → HeldAt b a p memory n
          of (inl l) = window_held p mem_pool n path (sym (ap (is_in n) placed_windows.mem) ∙ l)
          of (inr l) = window_held p pref_pool n path (sym (ap (is_in n) placed_windows.pref) ∙ l)

  of_bridge : (p : Path) (d : Bridge) (x : Agent) (own space : Space) (n : ℕ) → IsIn (record { path = p; decl = bridge d }) b → x ≡ bridge_agent (row_of (left b a (record { path = p; decl = bridge d }))) own → answers space n x ≡ true → (x.path ≡ p) × HeldAt b a p space n
  of_bridge p d x own space n m is h =
      grind (arith, space_same own space, left_true, bridge_answers space n (row_of (left b a (record { path = p; decl = bridge d }))), bridge_held)

  -- an agent that answers
  pub agent_held : (p : Path) (d : Decl) (x : Agent) (space : Space) (n : ℕ) → IsIn (record { path = p; decl = d }) b → IsIn x (agents_of (row_of (left b a (record { path = p; decl = d })))) → answers space n x ≡ true → (x.path ≡ p) × HeldAt b a p space n
  agent_held p (endpoint e) x space n m k h = of_agent (from_map region_agent x (open_of here) k)
    where
      here : RoutingRow
      here = row_of (left b a (record { path = p; decl = endpoint e }))

      of_region : (q : PlacedRegion) → x ≡ region_agent q → (g : Region) × IsIn g e.regions × (q ≡ placed b a p g) → (x.path ≡ p) × HeldAt b a p space n
      of_region q is (g, there, same) = grind (arith, region_answers, region_held)

      of_agent : (q : PlacedRegion) × IsIn q (open_of (row_of (left b a (record { path = p; decl = endpoint e })))) × (x ≡ region_agent q) → (x.path ≡ p) × HeldAt b a p space n
      of_agent (q, l, is) =
          grind (arith, regions_placed b a can lawful has p (endpoint e) m, from_filter, of_region q is, from_map (placed b a p) q e.regions)
  agent_held p (bridge d) x space n m (inl e) h = of_bridge p d x io space n m e h
  agent_held p (bridge d) x space n m (inr (inl e)) h = of_bridge p d x memory space n m e h
  agent_held p (bridge d) x space n m (inr (inr e)) h = absurd e
