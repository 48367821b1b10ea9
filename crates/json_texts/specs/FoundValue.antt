-- The report's JSON value as the code builds it: from the table that set-up finds, from the register values that it writes,
-- and from the declared capability lists. `report_json` says that this is the value of the board's report.
--     pin_route_or_null      a pin from 1 to 4; null for any other
--     open_window_or_null      a window, null where its base is above its limit
--     region_values_if_endpoint, written_windows      what is written into a function
--     capability_values_nth      the capability list of the function at an index, empty for a bridge
--     function_value, function_values      a function; those of a table, each with its list and with what is written into it
--     found_value      the whole value, of what is reported
use Rattle.std.specs.{Prelude.{List, [], ◌∷◌, ℕ, ◌+◌, if◌then◌else◌, nat_lt, ◌==◌, ◌||◌, Option, Some, None, map, not, count_by}, Option.option_map_or}
use Rattle.serde_json.specs.Data.{Data, null}
use Rattle.model_registers.specs.{BridgeTable.{Window}, Decoding.{Function}, Capabilities.{listed}}
use Rattle.model_board.specs.{Paths.Path, Board.{Decl, endpoint, bridge, is_bridge}, State.{BoardFunction}}
use Rattle.model_set_up.specs.{FunctionTable.{BusRange, TableRow}, SetUpWrites.{RegisterValues, to_endpoint, to_bridge, FunctionProgram}}
use Rattle.model_handoff.specs.FoundReport.{SetUpBoard}
use Rattle.bridge_forward.specs.Lending.{endpoint_nth}
use Rattle.json_texts.specs.ReportValue.{region_value, capability_value, pin_route_value, range_value, windows_value, bus_numbers_value, endpoint_value, bridge_value, board_value}

-- ---- parts of a function

abbrev pub pin_route_or_null : Path → ℕ → Data
pin_route_or_null p pin = if pin == 0 || nat_lt 4 pin then null else pin_route_value p pin

-- a window without items has its base above its limit
abbrev pub open_window_or_null : Window → Data
open_window_or_null w = if nat_lt w.last w.first then null else range_value w.first w.last

abbrev pub region_values_if_endpoint : RegisterValues → List Data
region_values_if_endpoint (to_endpoint command bases) = map region_value bases
region_values_if_endpoint (to_bridge w) = []

abbrev pub windows_of_bridge_or_null : RegisterValues → Data
windows_of_bridge_or_null (to_endpoint command bases) = null
windows_of_bridge_or_null (to_bridge w) = windows_value (open_window_or_null w.io) (open_window_or_null w.mem) (open_window_or_null w.pref)

abbrev pub capability_values_nth : List BoardFunction → ℕ → List Data
capability_values_nth fs n =
    option_map_or (λ (e : Function). map capability_value (listed e.decl)) (endpoint_nth fs n) []

abbrev pub found_buses : ℕ → Option BusRange → Data
found_buses bus None = null
found_buses bus (Some behind) = bus_numbers_value bus behind.first behind.last

-- ---- functions, and the whole

abbrev pub decl_value : ℕ → Option BusRange → Path → Decl → List Data → RegisterValues → Data
decl_value bus behind p (endpoint d) capabilities w =
    endpoint_value bus p d.vendor d.device capabilities (pin_route_or_null p d.pin) (region_values_if_endpoint w)
decl_value bus behind p (bridge d) capabilities w =
    bridge_value bus p d.vendor d.device (found_buses bus behind) (windows_of_bridge_or_null w)

abbrev pub function_value : TableRow → List Data → RegisterValues → Data
function_value r capabilities w = decl_value r.bus r.behind r.path r.decl capabilities w

-- the first row is that of the function at index n
abbrev pub function_values : List BoardFunction → ℕ → List TableRow → List FunctionProgram → List Data
function_values fs n [] ss = []
function_values fs n (r ∷ rs) [] = []
function_values fs n (r ∷ rs) (s ∷ ss) =
    function_value r (capability_values_nth fs n) s.writes ∷ function_values fs (n + 1) rs ss

abbrev pub found_value : List BoardFunction → SetUpBoard → Data
found_value fs s =
    board_value (count_by (λ r. is_bridge r.decl) s.functions) (count_by (λ r. not (is_bridge r.decl)) s.functions)
    (function_values fs 0 s.functions s.plan.settings) s.guests
