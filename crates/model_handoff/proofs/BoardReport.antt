-- The text that is made of what set-up finds and writes is the report of the board, function by function.
use Rattle.std.{proofs.Common.{◌≡◌, ℕ, List, [], ◌∷◌, ◌++◌, refl, sym, ap, ap₂, ◌∙◌, append_assoc}, specs.Prelude.{codes, map, flat_map}}
use Rattle.lists.{specs.Elements.Each, proofs.Members.flat_map_flat}
use Rattle.model_registers.specs.{Apertures.Apertures, Declarations.Region}
use Rattle.model_board.specs.{Paths.Path, Board.{Decl, endpoint, bridge, Board}, BusNumbers.{bus_of, secondary, subordinate}, Lawful.{IsLawfulDecl, HasLawfulDecls}}
use Rattle.model_set_up.specs.{Reach.address_of, Pools.{Pool, io_pool, mem_pool, pref_pool, unit_of}, Placement.{PlacementItem, items_on, bus_first}, SetUp.{windows_of, window_of, set_up_window}, SetUpWrites.{to_bridge, placed_base, writes_of, settings}, FunctionTable.{found_decl, range_behind, table_row, sized_table}}
use Rattle.model_guests.{specs.{Text.{Text, text_of_lines, ended}, World.Guest}, proofs.WrittenLines.text_of_lines-append}
use Rattle.model_handoff.{specs.{Report.{identity_text, range_text, head_text, base_line, region_lines, interrupt_lines, items_lines, pool_lines, window_lines, function_lines, guest_lines}, FoundReport.{named_window_lines, written_windows, decl_text, functions_text, guests_text, count_line}, ReportLaws.{is_closed, is_empty, AreClosedWithoutItems, ReportOfBoard}}, proofs.ReportLaws.{closed_without_items, counts_of_board, pin_lines}}

window_is : (name : Text) (unit closed first : ℕ) (is : List PlacementItem) → is_closed (window_of unit closed first is) ≡ is_empty is
    → named_window_lines name (window_of unit closed first is) ≡ items_lines name unit first is
window_is name unit closed first [] e = rw e refl
window_is name unit closed first (i ∷ is) e = rw e refl

window_of_pool : (b : Board) (a : Apertures) (p : Path) (name : Text) (pool : Pool) (closed : ℕ) → is_closed (set_up_window b a pool closed p) ≡ is_empty (items_on b a pool p)
    → named_window_lines name (set_up_window b a pool closed p) ≡ pool_lines b a p name pool
window_of_pool b a p name pool closed e = window_is name (unit_of pool) closed (bus_first b a pool p) (items_on b a pool p) e

windows_are : (b : Board) (a : Apertures) (p : Path) → AreClosedWithoutItems b a p → written_windows (to_bridge (windows_of b a p)) ≡ window_lines b a p
windows_are b a p h =
    ap₂ (λ (others pref : List Text). others ++ pref)
    (ap₂ (λ (io mem : List Text). io ++ mem) (window_of_pool b a p (codes "io") io_pool 0xf h.io) (window_of_pool b a p (codes "mem") mem_pool 0xfff h.mem))
    (window_of_pool b a p (codes "pref") pref_pool 0xfff h.pref)

bases_are : (b : Board) (a : Apertures) (p : Path) (rs : List Region) → map base_line (map (placed_base b a p) rs) ≡ map (λ r. base_line (placed_base b a p r)) rs
bases_are b a p [] = refl
bases_are b a p (r ∷ rs) = ap (λ (ls : List Text). base_line (placed_base b a p r) ∷ ls) (bases_are b a p rs)

function_is : (b : Board) (a : Apertures) → HasLawfulDecls b → (p : Path) (d : Decl) → IsLawfulDecl d
    → decl_text (bus_of b p) (range_behind b p d) p (found_decl d) (writes_of b a p d) ≡ text_of_lines (function_lines b a (record { path = p; decl = d }))
function_is b a lawful p (endpoint d) one =
    let head = head_text (bus_of b p) p (codes " endpoint ") (identity_text d.vendor d.device) in
    ap₂ (λ (rs ps : List Text). head ++ 10 ∷ (text_of_lines rs ++ text_of_lines ps)) (bases_are b a p d.regions) (pin_lines p d one)
    ∙ ap (λ (t : Text). head ++ 10 ∷ t) (sym (text_of_lines-append (region_lines b a p d) (interrupt_lines p d.pin)))
    ∙ sym (append_assoc head (10 ∷ []) (text_of_lines (region_lines b a p d ++ interrupt_lines p d.pin)))
function_is b a lawful p (bridge d) one =
    let head = head_text (bus_of b p) p (codes " bridge ") (identity_text d.vendor d.device) in
    let range = range_text (bus_of b p) (secondary b p) (subordinate b p) in
    ap (λ (ls : List Text). head ++ (range ++ 10 ∷ text_of_lines ls)) (windows_are b a p (closed_without_items b a lawful p))
    ∙ sym (append_assoc head range (10 ∷ text_of_lines (window_lines b a p)))
    ∙ sym (append_assoc (head ++ range) (10 ∷ []) (text_of_lines (window_lines b a p)))

functions_are : (whole : Board) (a : Apertures) → HasLawfulDecls whole → (b : Board) → Each (λ r. IsLawfulDecl r.decl) b
    → functions_text (map (table_row whole found_decl) b) (map (λ r. record { at = address_of whole r.path; writes = writes_of whole a r.path r.decl }) b)
    ≡ text_of_lines (flat_map (function_lines whole a) b)
functions_are whole a lawful [] each = refl
functions_are whole a lawful (r ∷ b) each =
    ap₂ (λ (t u : Text). t ++ u) (function_is whole a lawful r.path r.decl each.0) (functions_are whole a lawful b each.1)
    ∙ sym (text_of_lines-append (function_lines whole a r) (flat_map (function_lines whole a) b))

guests_are : (gs : List Guest) → guests_text gs ≡ text_of_lines (flat_map guest_lines gs)
guests_are gs = sym (flat_map_flat (λ (l : Text). l ++ 10 ∷ []) guest_lines gs)

pub report_of_board : ReportOfBoard
report_of_board w lawful =
    let functions = flat_map (function_lines w.board w.apertures) w.board in
    let guests = flat_map guest_lines w.guests in
    let found = functions_text (sized_table w.board) (settings w.board w.apertures) in
    append_assoc (ended (count_line (sized_table w.board))) found (guests_text w.guests)
    ∙ ap₂ (λ (t u : Text). ended t ++ u) (counts_of_board w.board)
    (ap₂ (λ (t u : Text). t ++ u) (functions_are w.board w.apertures lawful w.board lawful) (guests_are w.guests)
    ∙ sym (text_of_lines-append functions guests))
