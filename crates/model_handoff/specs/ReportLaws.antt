-- The text made from the results of set-up is the report of the board.
--     ReportOfBoard      this holds for each world whose declarations are lawful
--     is_closed w, is_empty is      the base of the window is above its limit; there are no items
--     ClosedWithoutItems      set-up disables exactly the windows that have nothing placed behind them
--     CountsOfBoard, IdentitiesOfBoard      the counted functions and their identities are those of the board
--     PinLines      each pin except 0 has a line
use Rattle.std.specs.Prelude.{◌≡◌, Bool, true, false, nat_lt, ◌==◌, if◌then◌else◌, not, count_by, List, [], ◌∷◌}
use Rattle.model_registers.specs.{Declarations.Endpoint, DeclarationRules.IsLawfulEndpoint, Apertures.Apertures, BridgeTable.Window}
use Rattle.model_board.specs.{Paths.Path, Board.{Decl, Board, is_bridge}, Lawful.HasLawfulDecls}
use Rattle.model_set_up.specs.{Pools.{io_pool, mem_pool, pref_pool}, Placement.{PlacementItem, items_on}, SetUp.windows_of, FunctionTable.{found_decl, sized_table}}
use Rattle.model_guests.specs.World.{World}
use Rattle.model_handoff.specs.{Report.{counts_text, pin_line, report}, FoundReport.{set_up_board, count_line, identity_of, known_pin_lines, found_report}}

abbrev pub ReportOfBoard : Type 0
ReportOfBoard = (w : World) → HasLawfulDecls w.board → found_report (set_up_board w) ≡ report w

abbrev pub is_closed : Window → Bool
is_closed w = nat_lt w.last w.first

abbrev pub is_empty : List PlacementItem → Bool
is_empty [] = true
is_empty (i ∷ is) = false

pub record AreClosedWithoutItems (b : Board) (a : Apertures) (p : Path) : Type 0 where
  pub io : is_closed (windows_of b a p).io ≡ is_empty (items_on b a io_pool p)
  pub mem : is_closed (windows_of b a p).mem ≡ is_empty (items_on b a mem_pool p)
  pub pref : is_closed (windows_of b a p).pref ≡ is_empty (items_on b a pref_pool p)

abbrev pub ClosedWithoutItems : Type 0
ClosedWithoutItems = (b : Board) (a : Apertures) → HasLawfulDecls b → (p : Path) → AreClosedWithoutItems b a p

abbrev pub CountsOfBoard : Type 0
CountsOfBoard = (b : Board) → count_line (sized_table b)
    ≡ counts_text (count_by (λ r. not (is_bridge r.decl)) b) (count_by (λ r. is_bridge r.decl) b)

abbrev pub IdentitiesOfBoard : Type 0
IdentitiesOfBoard = (d : Decl) → identity_of (found_decl d) ≡ identity_of d

abbrev pub PinLines : Type 0
PinLines = (p : Path) (d : Endpoint) → IsLawfulEndpoint d
    → known_pin_lines p d.pin ≡ (if d.pin == 0 then [] else pin_line p d.pin ∷ [])
