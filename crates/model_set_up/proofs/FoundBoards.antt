-- A board as it was found: each row keeps its path, whether it is a bridge, its regions but for their cells, and its decodes.
use Rattle.std.{proofs.{Common.{◌≡◌, ℕ, ◌+◌, ◌≤◌, Bool, ◌&&◌, ◌||◌, cond, List, [], ◌∷◌, length, refl, sym, ap, ap₂, ◌∙◌, subst, arith, rules, zero, suc}, lemmas.List.{map-append, Folds.{list_all-map, flat_map-map}, Sums.sum_by-cons}}, specs.{Prelude.{map, filter, flat_map, count_by}, List.{list_all, list_any}}}
use Rattle.lists.{proofs.{EachLemmas.each_of_map, Members.pairs_of_map}, specs.Elements.Each}
use Rattle.model_registers.{specs.{Declarations.{Kind, Region, Endpoint, Bridge}, OwnCopies.bare, Apertures.Apertures, Decoding.{io, memory, space_of, same_space}, EndpointTable.BaseAddress}, proofs.BareRegions.{bare_each, bare_order}}
use Rattle.model_board.{specs.{Paths.{Path, path_eq, path_before, is_ancestor_of, parent, last_part}, Board.{Decl, endpoint, bridge, is_bridge, Row, Board, stands_at, is_bridge_at, IsBoard, rows_on}, BusNumbers.{secondary, subordinate, bus_behind, bus_of, Enumerates}, Lawful.HasLawfulDecls}, proofs.{BusNumbers.{bridges, bridges-cons}, PathOrder.one}}
use Rattle.model_set_up.specs.{Pools.{bridge_of, bridges_above, pool_of, Pool, io_pool, mem_pool, pref_pool, unit_of, same_pool, has_io, is_io, opens_io, has_io_paths}, FunctionTable.{met_endpoint, met_bridge, found_decl, range_behind, table_row, sized_table, board_in, PlacedAsFound}, Placement.{PlacementItem, a_region, region_item, window_items, items_of, items_within, items_on, root_bus_start, spots, offset_in, first_below, bus_first, region_first}, Layout.{buses, pool_rows}, SetUp.{first_of, command_of}, SetUpWrites.{placed_base, windows_of, writes_of, planned, placement_rules}}

abbrev pub found_endpoint : Endpoint → Endpoint
found_endpoint d = record (met_endpoint d) { regions = map bare d.regions }

abbrev pub found_bridge : Bridge → Bridge
found_bridge d = record (met_bridge d) { io = d.io; pref = d.pref }

abbrev pub found_row : Row → Row
found_row r = record { path = r.path; decl = found_decl r.decl }

abbrev pub found_board : Board → Board
found_board b = map found_row b

-- the board in the table is the board as it was found
board_in_rows : (whole : Board) (b : Board) → board_in (map (table_row whole found_decl) b) ≡ found_board b
board_in_rows whole [] = refl
board_in_rows whole (r ∷ b) = ap (λ (rs : Board). found_row r ∷ rs) (board_in_rows whole b)

pub board_in_table : (b : Board) → board_in (sized_table b) ≡ found_board b
board_in_table b = board_in_rows b b

-- ---- declarations

pub found_is_bridge : (d : Decl) → is_bridge (found_decl d) ≡ is_bridge d
found_is_bridge d = grind arith

pub bare_twice : (rs : List Region) → map bare (map bare rs) ≡ map bare rs
bare_twice [] = refl
bare_twice (r ∷ rs) = ap (λ (ss : List Region). bare r ∷ ss) (bare_twice rs)

bare_blocks : (rs : List Region) → Each (λ r. length r.cells ≤ 4096) (map bare rs)
bare_blocks [] = tt
bare_blocks (r ∷ rs) = (omega arith, bare_blocks rs)

pub found_decls : (b : Board) → HasLawfulDecls b → HasLawfulDecls (found_board b)
found_decls [] h = tt
found_decls (r ∷ b) h = grind (arith, found_decls b, bare_each, bare_order, bare_blocks)

-- ---- places

found_bridge_at : (b : Board) (p : Path) → is_bridge_at (found_board b) p ≡ is_bridge_at b p
found_bridge_at [] p = refl
found_bridge_at (r ∷ b) p = ap₂ (λ t u. (t && path_eq r.path p) || u) (found_is_bridge r.decl) (found_bridge_at b p)

found_stands : (b : Board) (p : Path) → stands_at (found_board b) p ≡ stands_at b p
found_stands [] p = refl
found_stands (r ∷ b) p = ap (λ t. path_eq r.path p || t) (found_stands b p)

pub found_places : (b : Board) → IsBoard b → IsBoard (found_board b)
found_places b h = search (rules, each_of_map, pairs_of_map, found_bridge_at, found_stands)

-- ---- bus numbers

found_count : (p : Path → Bool) (b : Board) → bridges p (found_board b) ≡ bridges p b
found_count p [] = refl
found_count p (r ∷ b) = bridges-cons p (found_row r) (found_board b) ∙ ap₂ (λ t n. one (t && p r.path) + n) (found_is_bridge r.decl) (found_count p b) ∙ sym (bridges-cons p r b)

pub found_secondary : (b : Board) (p : Path) → secondary (found_board b) p ≡ secondary b p
found_secondary b p = ap (λ n. 1 + n) (found_count (λ q. path_before q p) b)

pub found_subordinate : (b : Board) (p : Path) → subordinate (found_board b) p ≡ subordinate b p
found_subordinate b p = ap₂ ◌+◌ (found_secondary b p) (found_count (λ q. is_ancestor_of p q) b)

found_behind : (b : Board) (p : Path) → bus_behind (found_board b) p ≡ bus_behind b p
found_behind b [] = refl
found_behind b (p ∷ ps) = found_secondary b (p ∷ ps)

pub found_bus : (b : Board) (p : Path) → bus_of (found_board b) p ≡ bus_of b p
found_bus b p = found_behind b (parent p)

pub found_range : (b : Board) (p : Path) (d : Decl) → range_behind (found_board b) p (found_decl d) ≡ range_behind b p d
found_range b p d = grind (arith, found_secondary b p, found_subordinate b p)

pub found_table_row : (b : Board) (r : Row) → table_row (found_board b) found_decl (found_row r) ≡ table_row b found_decl r
found_table_row b r = grind (arith, found_bus b r.path, found_range b r.path r.decl, bare_twice)

-- ---- a map of rows, and a map over what was found

pub map_found : {A : Type 0} (f g : Row → A) → ((r : Row) → f (found_row r) ≡ g r) → (b : Board) → map f (found_board b) ≡ map g b
map_found f g h [] = refl
map_found f g h (r ∷ b) = ap₂ ◌∷◌ (h r) (map_found f g h b)

pub flat_map_found : {A : Type 0} (f g : Row → List A) → ((r : Row) → f (found_row r) ≡ g r) → (b : Board) → flat_map f (found_board b) ≡ flat_map g b
flat_map_found f g h b = flat_map-map f found_row b ∙ (λ i. flat_map (λ (r : Row). h r i) b)

pub filter_found : (p q : Row → Bool) → ((r : Row) → p (found_row r) ≡ q r) → (b : Board) → filter p (found_board b) ≡ found_board (filter q b)
filter_found p q h [] = refl
filter_found p q h (r ∷ b) = search (rules, filter_found p q h b)

-- ---- the bridges above

found_bridges : (b : Board) → flat_map bridge_of (found_board b) ≡ map found_bridge (flat_map bridge_of b)
found_bridges [] = refl
found_bridges (r ∷ b) = grind (arith, found_bridges b, map-append)

pub found_above : (b : Board) (p : Path) → bridges_above (found_board b) p ≡ map found_bridge (bridges_above b p)
found_above b p = ap (flat_map bridge_of) (filter_found (λ r. is_ancestor_of r.path p) (λ r. is_ancestor_of r.path p) (λ r. refl) b) ∙ found_bridges (filter (λ r. is_ancestor_of r.path p) b)

pub found_pool : (b : Board) (a : Apertures) (p : Path) (k : Kind) → pool_of a (bridges_above (found_board b) p) k ≡ pool_of a (bridges_above b p) k
found_pool b a p k = grind (arith, found_above, list_all-map)

-- ---- a board as it was found is placed as the board is: placement looks at paths, kinds, sizes and decodes alone

-- ---- what stands on a bus

regions_found : (b : Board) (a : Apertures) (pool : Pool) (p : Path) (rs : List Region)
    → map (region_item (last_part p)) (filter (λ r. same_pool (pool_of a (bridges_above (found_board b) p) r.kind) pool) (map bare rs))
    ≡ map (region_item (last_part p)) (filter (λ r. same_pool (pool_of a (bridges_above b p) r.kind) pool) rs)
regions_found b a pool p [] = refl
regions_found b a pool p (r ∷ rs) = search (rules, found_pool, regions_found b a pool p rs)

items_of_found : (b : Board) (a : Apertures) (pool : Pool) (f g : Path → List PlacementItem) (p : Path) (d : Decl) → f p ≡ g p
    → items_of (found_board b) a pool f (record { path = p; decl = found_decl d }) ≡ items_of b a pool g (record { path = p; decl = d })
items_of_found b a pool f g p (endpoint d) e = regions_found b a pool p d.regions
items_of_found b a pool f g p (bridge d) e = ap (window_items (unit_of pool) (last_part p)) e

items_found : (b : Board) (a : Apertures) (pool : Pool) (n : ℕ) (bus : Path) → items_within (found_board b) a pool n bus ≡ items_within b a pool n bus
items_found b a pool zero bus = refl
items_found b a pool (suc n) bus =
    ap (flat_map (items_of (found_board b) a pool (items_within (found_board b) a pool n))) (filter_found (λ r. path_eq (parent r.path) bus) (λ r. path_eq (parent r.path) bus) (λ r. refl) b)
    ∙ flat_map_found (items_of (found_board b) a pool (items_within (found_board b) a pool n)) (items_of b a pool (items_within b a pool n))
    (λ r. items_of_found b a pool (items_within (found_board b) a pool n) (items_within b a pool n) r.path r.decl (items_found b a pool n r.path)) (rows_on b bus)

-- ---- addresses, for two boards that have the same on each bus

module _ (b c : Board) (a : Apertures) (pool : Pool) (same : (bus : Path) → items_on c a pool bus ≡ items_on b a pool bus) where
  first_below_same : (n : ℕ) (above : Path) (ps : Path) → first_below c a pool n above ps ≡ first_below b a pool n above ps
  first_below_same n above ps = grind arith

  pub bus_first_same : (bus : Path) → bus_first c a pool bus ≡ bus_first b a pool bus
  bus_first_same bus = grind (arith, first_below_same (root_bus_start a pool (items_on c a pool [])) [] bus, same [])

  pub region_first_same : (p : Path) (k : ℕ) → region_first c a pool p k ≡ region_first b a pool p k
  region_first_same p k = ap₂ (λ n (is : List PlacementItem). n + offset_in (spots is) (last_part p) (a_region k)) (bus_first_same (parent p)) (same (parent p))

-- ---- the rows of the layout

module _ (b : Board) (a : Apertures) where
  pub on_bus : (pool : Pool) (bus : Path) → items_on (found_board b) a pool bus ≡ items_on b a pool bus
  on_bus pool bus = items_found b a pool 16 bus

  buses_found : buses (found_board b) ≡ buses b
  buses_found =
      ap (λ (ps : List Path). [] ∷ ps)
      (ap (map (λ (r : Row). r.path)) (filter_found (λ r. is_bridge r.decl) (λ r. is_bridge r.decl) (λ r. found_is_bridge r.decl) b)
      ∙ map_found (λ r. r.path) (λ r. r.path) (λ r. refl) (filter (λ r. is_bridge r.decl) b))

  rows_found : (pool : Pool) → pool_rows (found_board b) a pool ≡ pool_rows b a pool
  rows_found pool = grind (arith, bus_first_same, on_bus pool, buses_found)

  -- ---- what set-up writes

  pub first_of_found : (p : Path) (r : Region) → first_of (found_board b) a p (bare r) ≡ first_of b a p r
  first_of_found p r =
      ap (λ (pool : Pool). region_first (found_board b) a pool p r.index) (found_pool b a p r.kind)
      ∙ region_first_same b (found_board b) a (pool_of a (bridges_above b p) r.kind) (on_bus (pool_of a (bridges_above b p) r.kind)) p r.index

  bases_found : (p : Path) (rs : List Region) → map (placed_base (found_board b) a p) (map bare rs) ≡ map (placed_base b a p) rs
  bases_found p [] = refl
  bases_found p (r ∷ rs) = ap₂ (λ n (bs : List BaseAddress). record { index = r.index; kind = r.kind; size = r.size; base = n } ∷ bs) (first_of_found p r) (bases_found p rs)

  pub windows_found : (p : Path) → windows_of (found_board b) a p ≡ windows_of b a p
  windows_found p = grind (arith, bus_first_same, on_bus io_pool, on_bus mem_pool, on_bus pref_pool)

  any_bare : (t : Kind → Bool) (rs : List Region) → list_any (λ r. t r.kind) (map bare rs) ≡ list_any (λ r. t r.kind) rs
  any_bare t [] = refl
  any_bare t (r ∷ rs) = ap (λ u. t r.kind || u) (any_bare t rs)

  command_found : (d : Endpoint) → command_of (found_endpoint d) ≡ command_of d
  command_found d = ap₂ (λ t u. cond t 1 0 + cond u 2 0) (any_bare (λ k. same_space (space_of k) io) d.regions) (any_bare (λ k. same_space (space_of k) memory) d.regions)

  writes_found : (p : Path) (d : Decl) → writes_of (found_board b) a p (found_decl d) ≡ writes_of b a p d
  writes_found p d = grind (arith, command_found, bases_found, windows_found)

  pub planned_found : planned (found_board b) a ≡ planned b a
  planned_found = grind (arith, rows_found, map_found, writes_found, found_bus)

  -- ---- what is refused

  opens_found : (d : Decl) → opens_io (found_decl d) ≡ opens_io d
  opens_found (endpoint d) = any_bare is_io d.regions
  opens_found (bridge d) = refl

  io_test : (p : Path) → list_all (λ d. has_io d.io) (bridges_above (found_board b) p) ≡ list_all (λ d. has_io d.io) (bridges_above b p)
  io_test p = grind (arith, found_above b p, list_all-map)

  io_paths_found : has_io_paths (found_board b) ≡ has_io_paths b
  io_paths_found = grind (arith, opens_found, io_test, list_all-map)

  pub rules_found : placement_rules (found_board b) a ≡ placement_rules b a
  rules_found = grind (arith, io_paths_found, on_bus io_pool, on_bus mem_pool, on_bus pref_pool)

-- ---- the law

-- as many bridges stand in the table
pub all_bridges : (b : Board) → count_by (λ (r : Row). is_bridge r.decl) (found_board b) ≡ count_by (λ (r : Row). is_bridge r.decl) b
all_bridges [] = refl
all_bridges (r ∷ b) = search (rules, sum_by-cons, one, found_is_bridge, all_bridges b)

pub found_few : (b : Board) → Enumerates b → Enumerates (board_in (sized_table b))
found_few b few = subst Enumerates (sym (board_in_table b)) (subst (λ n. n ≤ 255) (sym (all_bridges b)) few)

of_found : (b : Board) → IsBoard b → HasLawfulDecls b → (c : Board) → c ≡ found_board b → IsBoard c × HasLawfulDecls c × (sized_table c ≡ sized_table b) × ((a : Apertures) → planned c a ≡ planned b a) × ((a : Apertures) → placement_rules c a ≡ placement_rules b a)
of_found b board lawful c e =
    let P : Board → Type 0 = λ x. IsBoard x × HasLawfulDecls x × (sized_table x ≡ sized_table b) × ((a : Apertures) → planned x a ≡ planned b a) × ((a : Apertures) → placement_rules x a ≡ placement_rules b a) in
    subst P (sym e) (found_places b board, found_decls b lawful, map_found _ _ (found_table_row b) b, planned_found b, rules_found b)

pub scan_finds_all_placement_needs : PlacedAsFound
scan_finds_all_placement_needs b board lawful = grind (arith, of_found b board lawful (board_in (sized_table b)) (board_in_table b), board_in_table b, found_few b)
