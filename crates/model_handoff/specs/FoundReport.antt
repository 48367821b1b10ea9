-- The report as the code writes it, from the table that set-up finds and the values that it writes. `ReportLaws` proves that
-- it is the report of the board.
--     SetUpBoard, set_up_board      the data of the report: the functions that set-up finds, its plan, and the guests; these data for a world
--     IsSetUpOf s w      s is what set-up finds and plans for w, whose declarations are lawful
--     known_pin_lines      the line of a pin from 1 to 4
--     written_windows      the lines of a bridge's windows, except those whose base is above their limit
--     function_text      an endpoint with its regions and its interrupt, or a bridge with its buses and windows
--     found_report      the whole text, from the data of the report
use Rattle.std.specs.Prelude.{◌≡◌, List, [], ◌∷◌, ℕ, ◌++◌, if◌then◌else◌, nat_lt, ◌==◌, ◌||◌, Option, Some, None, flat_map, map, not, count_by, codes}
use Rattle.model_registers.specs.BridgeTable.{Window}
use Rattle.model_board.specs.{Paths.Path, Board.{Decl, endpoint, bridge, is_bridge}, Lawful.HasLawfulDecls}
use Rattle.model_set_up.specs.{FunctionTable.{BusRange, TableRow, sized_table}, SetUpWrites.{RegisterValues, to_endpoint, to_bridge, FunctionProgram, Plan, planned}}
use Rattle.model_guests.specs.{Text.{Text, text_of_lines, ended}, World.{Guest, World}}
use Rattle.model_handoff.specs.Report.{identity_text, range_text, head_text, base_line, pin_line, addresses_line, guest_lines, counts_text}

pub record SetUpBoard : Type 0 where
  pub functions : List TableRow
  pub plan : Plan
  pub guests : List Guest

abbrev pub set_up_board : World → SetUpBoard
set_up_board w = record { functions = sized_table w.board; plan = planned w.board w.apertures; guests = w.guests }

pub record IsSetUpOf (s : SetUpBoard) (w : World) : Type 0 where
  pub lawful : HasLawfulDecls w.board
  pub found : set_up_board w ≡ s

-- ---- a function

abbrev pub identity_of : Decl → Text
identity_of (endpoint d) = identity_text d.vendor d.device
identity_of (bridge d) = identity_text d.vendor d.device

abbrev pub row_head : TableRow → Text → Text
row_head r kind = head_text r.bus r.path kind (identity_of r.decl)

abbrev pub buses_text : ℕ → Option BusRange → Text
buses_text bus None = []
buses_text bus (Some behind) = range_text bus behind.first behind.last

abbrev pub base_lines : RegisterValues → List Text
base_lines (to_endpoint command bases) = map base_line bases
base_lines (to_bridge w) = []

-- pins are 1 to 4
abbrev pub known_pin_lines : Path → ℕ → List Text
known_pin_lines p pin = if pin == 0 || nat_lt 4 pin then [] else pin_line p pin ∷ []

-- a window without items has its base above its limit
abbrev pub named_window_lines : Text → Window → List Text
named_window_lines name w = if nat_lt w.last w.first then [] else addresses_line name w.first w.last ∷ []

abbrev pub written_windows : RegisterValues → List Text
written_windows (to_endpoint command bases) = []
written_windows (to_bridge w) =
    named_window_lines (codes "io") w.io ++ named_window_lines (codes "mem") w.mem
    ++ named_window_lines (codes "pref") w.pref

-- the end of an endpoint's first line, and the lines after it; the same for a bridge
abbrev pub endpoint_text : Path → ℕ → RegisterValues → Text
endpoint_text p pin w = codes "\n" ++ text_of_lines (base_lines w) ++ text_of_lines (known_pin_lines p pin)

abbrev pub windows_text : RegisterValues → Text
windows_text w = codes "\n" ++ text_of_lines (written_windows w)

abbrev pub decl_text : ℕ → Option BusRange → Path → Decl → RegisterValues → Text
decl_text bus behind p (endpoint d) w =
    head_text bus p (codes " endpoint ") (identity_text d.vendor d.device) ++ endpoint_text p d.pin w
decl_text bus behind p (bridge d) w =
    head_text bus p (codes " bridge ") (identity_text d.vendor d.device) ++ (buses_text bus behind ++ windows_text w)

abbrev pub function_text : TableRow → RegisterValues → Text
function_text r w = decl_text r.bus r.behind r.path r.decl w

abbrev pub functions_text : List TableRow → List FunctionProgram → Text
functions_text [] ss = []
functions_text (r ∷ rs) [] = []
functions_text (r ∷ rs) (s ∷ ss) = function_text r s.writes ++ functions_text rs ss

-- ---- the whole

abbrev pub guests_text : List Guest → Text
guests_text guests = flat_map (λ g. text_of_lines (guest_lines g)) guests

abbrev pub count_line : List TableRow → Text
count_line rs = counts_text (count_by (λ r. not (is_bridge r.decl)) rs) (count_by (λ r. is_bridge r.decl) rs)

abbrev pub found_report : SetUpBoard → Text
found_report s = ended (count_line s.functions) ++ functions_text s.functions s.plan.settings ++ guests_text s.guests
