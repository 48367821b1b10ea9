-- A board, and the same board with another choice of bit 7 of the header type in each declaration: set-up does the same.
use Rattle.std.{proofs.{Common.{◌≡◌, ℕ, ◌+◌, ◌%◌, Bool, false, ◌&&◌, ◌||◌, not, cond, List, [], ◌∷◌, refl, sym, ap, ap₂, ◌∙◌, arith, rules}}, specs.{Prelude.{map, count_by, nat_le}}}
use Rattle.lists.{proofs.{EachLemmas.each_of_map, Members.pairs_of_map}}
use Rattle.model_registers.{specs.{Cell.{Cell}, Registers.{Place, place_eq, File, cell_at}, Declarations.{Region, Endpoint, Bridge}, OwnCopies.bare, Apertures.Apertures, EndpointTable.{endpoint_file}, BridgeTable.{BridgeValues, bridge_file}}, proofs.RegisterFiles.{place_turned}}
use Rattle.model_board.{specs.{Paths.{Path, path_eq, last_part, same_device}, Board.{Decl, endpoint, bridge, is_bridge, Row, Board, stands_at, is_bridge_at, is_multifunction, has_multifunction_bit, IsBoard}, BusNumbers.numbers_suffice, State.{BoardFunction, state_of}, Lawful.HasLawfulDecls}, proofs.PathOrder.path_same}
use Rattle.model_set_up.{specs.{FunctionTable.{met_decl, found_decl, table_row, scanned_table, sized_table}, SetUp.{first_of, command_of, bridge_values, set_up_file, set_up_state}, SetUpWrites.{planned, placement_rules, set_up_rules}, MultifunctionBits.{declaring, with_multifunction, header_type_place, cell_in, HasSameCells, OnlyBitOfFunction0Matters}}, proofs.FoundBoards.{found_row, found_board, found_secondary, found_subordinate, found_bus, found_range, found_table_row, map_found, first_of_found, windows_found, planned_found, rules_found, all_bridges}}

declaring_found : (t : Bool) (d : Decl) → found_decl (declaring t d) ≡ found_decl d
declaring_found t d = grind arith

declaring_bridge : (t : Bool) (d : Decl) → is_bridge (declaring t d) ≡ is_bridge d
declaring_bridge t d = grind arith

met_row : (b : Board) (r : Row) → table_row (found_board b) met_decl (found_row r) ≡ table_row b met_decl r
met_row b r = grind (arith, found_bus b r.path, found_range b r.path r.decl)

found_values : (b : Board) (a : Apertures) (p : Path) → bridge_values (found_board b) a p ≡ bridge_values b a p
found_values b a p = grind (arith, found_bus b p, found_secondary b p, found_subordinate b p, windows_found b a p)

-- ---- the cells of a function, but for the bit

module _ (q : Place) (h : place_eq q header_type_place ≡ false) where
  turned : place_eq header_type_place q ≡ false
  turned = place_turned header_type_place q ∙ h

  endpoint_elsewhere : (d : Endpoint) (t u : Bool) (command : ℕ) (bases : Region → ℕ) → cell_at (endpoint_file d t command bases) q ≡ cell_at (endpoint_file d u command bases) q
  endpoint_elsewhere d t u command bases = grind (arith, turned)

  bridge_elsewhere : (d : Bridge) (t u : Bool) (r : BridgeValues) → cell_at (bridge_file d t r) q ≡ cell_at (bridge_file d u r) q
  bridge_elsewhere d t u r = grind (arith, turned)

layout_of : (layout : ℕ) (t u : Bool) → (layout + cond t 0x80 0) % 256 % 0x80 ≡ (layout + cond u 0x80 0) % 256 % 0x80
layout_of layout t u = grind arith

module _ (g : Path → Bool) where
  -- as they are found, both are one board
  found_same : (b : Board) → found_board (with_multifunction g b) ≡ found_board b
  found_same [] = refl
  found_same (r ∷ b) = ap₂ (λ (d : Decl) (rows : Board). record { path = r.path; decl = d } ∷ rows) (declaring_found (g r.path) r.decl) (found_same b)

  -- ---- lawful

  bridge_at_same : (b : Board) (p : Path) → is_bridge_at (with_multifunction g b) p ≡ is_bridge_at b p
  bridge_at_same [] p = refl
  bridge_at_same (r ∷ b) p = ap₂ (λ t u. (t && path_eq r.path p) || u) (declaring_bridge (g r.path) r.decl) (bridge_at_same b p)

  stands_same : (b : Board) (p : Path) → stands_at (with_multifunction g b) p ≡ stands_at b p
  stands_same [] p = refl
  stands_same (r ∷ b) p = ap (λ t. path_eq r.path p || t) (stands_same b p)

  places_same : (b : Board) → IsBoard b → IsBoard (with_multifunction g b)
  places_same b h = search (rules, each_of_map, pairs_of_map, bridge_at_same, stands_same)

  decls_same : (b : Board) → HasLawfulDecls b → HasLawfulDecls (with_multifunction g b)
  decls_same [] h = tt
  decls_same (r ∷ b) h = grind (arith, decls_same b)

  multifunction_same : (b : Board) (p : Path) → is_multifunction (with_multifunction g b) p ≡ is_multifunction b p
  multifunction_same [] p = refl
  multifunction_same (r ∷ b) p = ap (λ t. (same_device r.path p && not (path_eq r.path p)) || t) (multifunction_same b p)

  -- ---- states

  paths_same : (file other_file : Path → Decl → File) (b : Board) → map (λ (f : BoardFunction). f.path) (state_of (with_multifunction g b) file).functions ≡ map (λ (f : BoardFunction). f.path) (state_of b other_file).functions
  paths_same file other_file [] = refl
  paths_same file other_file (r ∷ b) = ap (λ (ps : List Path). r.path ∷ ps) (paths_same file other_file b)

  -- a part k of a cell is the same in both states if it is in each function at the path
  module _ {A : Type 0} (k : Cell → A) (file other_file : Path → Decl → File) (p : Path) (q : Place) (h : (d : Decl) → k (cell_at (file p (declaring (g p) d)) q) ≡ k (cell_at (other_file p d) q)) where
    cells_same : (b : Board) → k (cell_in (state_of (with_multifunction g b) file).functions p q) ≡ k (cell_in (state_of b other_file).functions p q)
    cells_same [] = refl
    cells_same (r ∷ b) = grind (arith, path_same r.path p, h r.decl, cells_same b)

  -- ---- what is found

  module _ (b : Board) where
    abbrev c : Board
    c = with_multifunction g b

    sized_same : sized_table c ≡ sized_table b
    sized_same = sym (map_found (table_row (found_board c) found_decl) (table_row c found_decl) (found_table_row c) c)
        ∙ ap sized_table (found_same b)
        ∙ map_found (table_row (found_board b) found_decl) (table_row b found_decl) (found_table_row b) b

    scanned_same : scanned_table c ≡ scanned_table b
    scanned_same = sym (map_found (table_row (found_board c) met_decl) (table_row c met_decl) (met_row c) c)
        ∙ ap scanned_table (found_same b)
        ∙ map_found (table_row (found_board b) met_decl) (table_row b met_decl) (met_row b) b

    plan_same : (a : Apertures) → planned c a ≡ planned b a
    plan_same a = sym (planned_found c a) ∙ ap (λ (x : Board). planned x a) (found_same b) ∙ planned_found b a

    placement_same : (a : Apertures) → placement_rules c a ≡ placement_rules b a
    placement_same a = sym (rules_found c a) ∙ ap (λ (x : Board). placement_rules x a) (found_same b) ∙ rules_found b a

    numbers_same : numbers_suffice c ≡ numbers_suffice b
    numbers_same = ap (λ n. nat_le n 255) (sym (all_bridges c) ∙ ap (count_by (λ (r : Row). is_bridge r.decl)) (found_same b) ∙ all_bridges b)

    refusals_same : (a : Apertures) → set_up_rules c a ≡ set_up_rules b a
    refusals_same a = ap₂ (λ t (rules : List (ℕ × Bool)). (201, t) ∷ rules) numbers_same (placement_same a)

    -- ---- what set-up writes

    first_same : (a : Apertures) (p : Path) (r : Region) → first_of c a p r ≡ first_of b a p r
    first_same a p r = sym (first_of_found c a p r) ∙ ap (λ (x : Board). first_of x a p (bare r)) (found_same b) ∙ first_of_found b a p r

    values_same : (a : Apertures) (p : Path) → bridge_values c a p ≡ bridge_values b a p
    values_same a p = sym (found_values c a p) ∙ ap (λ (x : Board). bridge_values x a p) (found_same b) ∙ found_values b a p

    -- ---- cells

    others_same : (p : Path) → is_multifunction c p ≡ is_multifunction b p
    others_same p = multifunction_same b p

    bit_same : (p : Path) → (last_part p).function ≡ 0 → has_multifunction_bit c p ≡ has_multifunction_bit b p
    bit_same p h = grind (arith, others_same p)

    file_same : (a : Apertures) (p : Path) (d : Decl) (t : Bool) → (last_part p).function ≡ 0 → set_up_file c a p (declaring t d) ≡ set_up_file b a p d
    file_same a p (endpoint d) t h = ap₂ (λ u (bases : Region → ℕ). endpoint_file d u (command_of d) bases) (bit_same p h) (λ i r. first_same a p r i)
    file_same a p (bridge d) t h = ap₂ (bridge_file d) (bit_same p h) (values_same a p)

    elsewhere_same : (a : Apertures) (p : Path) (d : Decl) (t : Bool) (q : Place) → place_eq q header_type_place ≡ false → cell_at (set_up_file c a p (declaring t d)) q ≡ cell_at (set_up_file b a p d) q
    elsewhere_same a p (endpoint d) t q h =
        endpoint_elsewhere q h d (has_multifunction_bit c p) (has_multifunction_bit b p) (command_of d) (first_of c a p)
        ∙ ap (λ (bases : Region → ℕ). cell_at (endpoint_file d (has_multifunction_bit b p) (command_of d) bases) q) (λ i r. first_same a p r i)
    elsewhere_same a p (bridge d) t q h =
        bridge_elsewhere q h d (has_multifunction_bit c p) (has_multifunction_bit b p) (bridge_values c a p)
        ∙ ap (λ (r : BridgeValues). cell_at (bridge_file d (has_multifunction_bit b p) r) q) (values_same a p)

    layout_same : (a : Apertures) (p : Path) (d : Decl) (t : Bool) → (cell_at (set_up_file c a p (declaring t d)) header_type_place).value % 0x80 ≡ (cell_at (set_up_file b a p d) header_type_place).value % 0x80
    layout_same a p (endpoint d) t = layout_of 0 (has_multifunction_bit c p) (has_multifunction_bit b p)
    layout_same a p (bridge d) t = layout_of 1 (has_multifunction_bit c p) (has_multifunction_bit b p)

    states_same : (a : Apertures) → HasSameCells (set_up_state c a) (set_up_state b a)
    states_same a = record {
      paths = paths_same (set_up_file c a) (set_up_file b a) b;
      latch = refl;
      elsewhere = λ p q h. cells_same (λ x. x) (set_up_file c a) (set_up_file b a) p q (λ d. elsewhere_same a p d (g p) q h) b;
      function_0 = λ p h. cells_same (λ x. x) (set_up_file c a) (set_up_file b a) p header_type_place (λ d. ap (λ (file : File). cell_at file header_type_place) (file_same a p d (g p) h)) b;
      layouts = λ p. cells_same (λ x. x.value % 0x80) (set_up_file c a) (set_up_file b a) p header_type_place (λ d. layout_same a p d (g p)) b;
    }

pub only_function_0_decides_multifunction : OnlyBitOfFunction0Matters
only_function_0_decides_multifunction b board lawful g = record {
  board = places_same g b board;
  declarations = decls_same g b lawful;
  scanned = scanned_same g b;
  sized = sized_same g b;
  plan = plan_same g b;
  rules = refusals_same g b;
  cells = states_same g b;
}
