-- The value that is made of what set-up finds and writes is that of the board's report, function by function.
use Rattle.std.{proofs.{Common.{◌≡◌, ℕ, ◌+◌, zero, suc, List, [], ◌∷◌, drop, Option, Some, None, refl, sym, ap, ap₂, ◌∙◌, subst, ne_eqb, le-ltb, arith}, lemmas.{Grind.common_steps, List.Sums.sum_by-cons}}, specs.{Prelude.{map, count_by, not, slice_get}, Option.option_map_or}}
use Rattle.lists.specs.Elements.{Each}
use Rattle.serde_json.specs.Data.{Data}
use Rattle.model_registers.specs.{Declarations.{Endpoint, Region}, DeclarationRules.IsLawfulEndpoint, Apertures.Apertures, Decoding.{Function}, Capabilities.listed}
use Rattle.model_board.specs.{Paths.Path, Board.{Decl, endpoint, bridge, is_bridge, Board}, BusNumbers.{bus_of, secondary, subordinate}, Lawful.{IsLawfulDecl, HasLawfulDecls}, State.{BoardFunction}, AtReset.board_at}
use Rattle.model_set_up.{specs.{Reach.address_of, Pools.{Pool, io_pool, mem_pool, pref_pool, unit_of}, Placement.{PlacementItem, items_on, bus_first}, SetUp.{windows_of, window_of, set_up_window}, SetUpWrites.{to_bridge, placed_base, writes_of, settings}, FunctionTable.{found_decl, range_behind, table_row, sized_table}}, proofs.FoundBoards.found_is_bridge}
use Rattle.model_guests.specs.World.{World}
use Rattle.model_handoff.{specs.{FoundReport.{SetUpBoard, set_up_board, IsSetUpOf}, ReportLaws.{is_closed, is_empty, AreClosedWithoutItems}}, proofs.ReportLaws.closed_without_items}
use Rattle.bridge_forward.specs.Lending.{as_endpoint}
use Rattle.json_texts.specs.{ReportValue.{region_value, capability_value, interrupt_value, windows_value, items_window, pool_window, bridge_windows, bus_numbers_value, endpoint_value, bridge_value, row_value, board_value, report_value, value_line, report_json_text}, FoundValue.{pin_route_or_null, open_window_or_null, windows_of_bridge_or_null, capability_values_nth, decl_value, function_values, found_value}}

window_is : (unit closed first : ℕ) (is : List PlacementItem) → is_closed (window_of unit closed first is) ≡ is_empty is
    → open_window_or_null (window_of unit closed first is) ≡ items_window unit first is
window_is unit closed first [] e = rw e refl
window_is unit closed first (i ∷ is) e = rw e refl

window_of_pool : (b : Board) (a : Apertures) (p : Path) (pool : Pool) (closed : ℕ) → is_closed (set_up_window b a pool closed p) ≡ is_empty (items_on b a pool p)
    → open_window_or_null (set_up_window b a pool closed p) ≡ pool_window b a p pool
window_of_pool b a p pool closed e = window_is (unit_of pool) closed (bus_first b a pool p) (items_on b a pool p) e

windows_are : (b : Board) (a : Apertures) (p : Path) → AreClosedWithoutItems b a p → windows_of_bridge_or_null (to_bridge (windows_of b a p)) ≡ bridge_windows b a p
windows_are b a p h =
    ap (λ (io : Data). windows_value io (open_window_or_null (windows_of b a p).mem) (open_window_or_null (windows_of b a p).pref)) (window_of_pool b a p io_pool 0xf h.io)
    ∙ ap₂ (λ (mem pref : Data). windows_value (pool_window b a p io_pool) mem pref)
    (window_of_pool b a p mem_pool 0xfff h.mem) (window_of_pool b a p pref_pool 0xfff h.pref)

interrupt_is : (p : Path) (d : Endpoint) → IsLawfulEndpoint d → pin_route_or_null p d.pin ≡ interrupt_value p d.pin
interrupt_is p d lawful = let few = lawful.pin in grind (arith, ne_eqb, le-ltb)

regions_are : (b : Board) (a : Apertures) (p : Path) (rs : List Region) → map region_value (map (placed_base b a p) rs) ≡ map (λ r. region_value (placed_base b a p r)) rs
regions_are b a p [] = refl
regions_are b a p (r ∷ rs) = ap (λ (vs : List Data). region_value (placed_base b a p r) ∷ vs) (regions_are b a p rs)

-- ---- capability lists, by the index of a function

abbrev declared : Decl → List Data
declared (endpoint d) = map capability_value (listed d)
declared (bridge d) = []

abbrev lists_of : Option Function → List Data
lists_of o = option_map_or (λ (e : Function). map capability_value (listed e.decl)) o []

of_decl : (f : BoardFunction) (d : Decl) → lists_of (as_endpoint (record f { decl = d })) ≡ declared d
of_decl f (endpoint d) = refl
of_decl f (bridge d) = refl

rest_at : {A : Type 0} (n : ℕ) (xs : List A) (y : A) (ys : List A) → drop n xs ≡ y ∷ ys → (slice_get xs n ≡ Some y) × (drop (suc n) xs ≡ ys)
rest_at zero [] y ys e = grind arith
rest_at zero (x ∷ xs) y ys e = grind arith
rest_at (suc n) [] y ys e = grind arith
rest_at (suc n) (x ∷ xs) y ys e = rest_at n xs y ys e

declared_nth : (fs : List BoardFunction) (n : ℕ) (f : BoardFunction) → slice_get fs n ≡ Some f → capability_values_nth fs n ≡ declared f.decl
declared_nth fs n f e = ap (λ (o : Option BoardFunction). lists_of (option_map_or as_endpoint o None)) e ∙ of_decl f f.decl

-- ---- functions

function_is : (b : Board) (a : Apertures) → HasLawfulDecls b → (p : Path) (d : Decl) (capabilities : List Data) → capabilities ≡ declared d → IsLawfulDecl d
    → decl_value (bus_of b p) (range_behind b p d) p (found_decl d) capabilities (writes_of b a p d) ≡ row_value b a (record { path = p; decl = d })
function_is b a lawful p (endpoint d) capabilities own one =
    ap (λ (cs : List Data). endpoint_value (bus_of b p) p d.vendor d.device cs (pin_route_or_null p d.pin) (map region_value (map (placed_base b a p) d.regions))) own
    ∙ ap₂ (λ (interrupt : Data) (regions : List Data). endpoint_value (bus_of b p) p d.vendor d.device (declared (endpoint d)) interrupt regions) (interrupt_is p d one) (regions_are b a p d.regions)
function_is b a lawful p (bridge d) capabilities own one =
    ap (λ (windows : Data). bridge_value (bus_of b p) p d.vendor d.device (bus_numbers_value (bus_of b p) (secondary b p) (subordinate b p)) windows)
    (windows_are b a p (closed_without_items b a lawful p))

-- the rows of a board, from that of the function at index n on
abbrev Are : Board → Apertures → List BoardFunction → ℕ → Board → Type 0
Are whole a fs n b =
    function_values fs n (map (table_row whole found_decl) b) (map (λ r. record { at = address_of whole r.path; writes = writes_of whole a r.path r.decl }) b)
    ≡ map (row_value whole a) b

functions_are : (whole : Board) (a : Apertures) → HasLawfulDecls whole → (fs : List BoardFunction) (n : ℕ) (gs : List BoardFunction) → drop n fs ≡ gs
    → Each (λ r. IsLawfulDecl r.decl) (board_at gs) → Are whole a fs n (board_at gs)
functions_are whole a lawful fs n [] e each = refl
functions_are whole a lawful fs n (f ∷ gs) e each =
    let there = rest_at n fs f gs e in
    let next : n + 1 ≡ suc n = omega arith in
    ap₂ (λ (v : Data) (vs : List Data). v ∷ vs)
    (function_is whole a lawful f.path f.decl (capability_values_nth fs n) (declared_nth fs n f there.0) each.0)
    (functions_are whole a lawful fs (n + 1) gs (ap (λ k. drop k fs) next ∙ there.1) each.1)

bridges_are : (whole b : Board) → count_by (λ r. is_bridge r.decl) (map (table_row whole found_decl) b) ≡ count_by (λ r. is_bridge r.decl) b
bridges_are whole [] = refl
bridges_are whole (r ∷ b) = grind (arith, common_steps, sum_by-cons, found_is_bridge, bridges_are whole b)

endpoints_are : (whole b : Board) → count_by (λ r. not (is_bridge r.decl)) (map (table_row whole found_decl) b) ≡ count_by (λ r. not (is_bridge r.decl)) b
endpoints_are whole [] = refl
endpoints_are whole (r ∷ b) = grind (arith, common_steps, sum_by-cons, found_is_bridge, endpoints_are whole b)

all_functions : (b : Board) (a : Apertures) (fs : List BoardFunction) → board_at fs ≡ b → HasLawfulDecls b → Are b a fs 0 b
all_functions b a fs below lawful =
    subst (λ (c : Board). Each (λ r. IsLawfulDecl r.decl) c → Are b a fs 0 c) below (functions_are b a lawful fs 0 fs refl) lawful

pub value_of_board : (fs : List BoardFunction) (w : World) → board_at fs ≡ w.board → HasLawfulDecls w.board → found_value fs (set_up_board w) ≡ report_value w
value_of_board fs w below lawful =
    ap₂ (λ (bridges endpoints : ℕ). board_value bridges endpoints (function_values fs 0 (sized_table w.board) (settings w.board w.apertures)) w.guests)
    (bridges_are w.board w.board) (endpoints_are w.board w.board)
    ∙ ap (λ (vs : List Data). board_value (count_by (λ r. is_bridge r.decl) w.board) (count_by (λ r. not (is_bridge r.decl)) w.board) vs w.guests)
    (all_functions w.board w.apertures fs below lawful)

pub of_set_up : (fs : List BoardFunction) (s : SetUpBoard) (w : World) → IsSetUpOf s w → board_at fs ≡ w.board → value_line (found_value fs s) ≡ report_json_text w
of_set_up fs s w is below = ap (λ k. value_line (found_value fs k)) (sym is.found) ∙ ap value_line (value_of_board fs w below is.lawful)
