-- The report of a board that is set up, as a JSON value: functions in path order with their capability lists, regions,
-- interrupts and windows, and guests. It is defined from the board itself, as the report in lines is. The members of an
-- object are in the order of their names.
--     natural, array_of      a number; values one after the other
--     region_value      a region, from its base address register
--     capability_value      a structure of a capability list
--     pin_route_value, interrupt_value      a pin, with the device of bus 0 that it reaches and the pin there; null for pin 0
--     pool_window, bridge_windows      the windows of a bridge, each null where nothing is placed behind it
--     endpoint_value, bridge_value      a function, from its description
--     row_value b a r      a function of a board, with its regions or windows where they are placed
--     guest_value      a guest with its slots
--     report_value      the whole value, of a world
--     report_json_text      its text and a line feed
use Rattle.std.specs.Prelude.{List, [], ◌∷◌, ℕ, ◌+◌, ◌-◌, ◌++◌, if◌then◌else◌, ◌==◌, map, not, count_by, codes}
use Rattle.serde_json.specs.{Data.{Data, null, number, unsigned, string, array, object, member, no_members}, View.items_of, Written.compact_text}
use Rattle.model_registers.specs.{EndpointTable.BaseAddress, Apertures.Apertures, Capabilities.{Listed, listed}}
use Rattle.model_board.specs.{Paths.{Path, last_part}, Board.{endpoint, bridge, is_bridge, Row, Board}, BusNumbers.{bus_of, secondary, subordinate}, Interrupts.{root_device, root_pin}}
use Rattle.model_set_up.specs.{Pools.{Pool, io_pool, mem_pool, pref_pool, unit_of}, Placement.{PlacementItem, need, items_on, bus_first}, SetUpWrites.placed_base}
use Rattle.model_guests.specs.{Text.Text, World.{Guest, World}, PathTexts.path_text}
use Rattle.model_handoff.specs.Report.{kind_text, pin_text}

abbrev pub natural : ℕ → Data
natural n = number (unsigned n)

abbrev pub array_of : List Data → Data
array_of values = array (items_of values)

-- ---- parts of a function

abbrev pub region_value : BaseAddress → Data
region_value r = object (
    member (codes "bar") (natural r.index) (
    member (codes "base") (natural r.base) (
    member (codes "kind") (string (kind_text r.kind)) (
    member (codes "size") (natural r.size) no_members))))

abbrev pub capability_value : Listed → Data
capability_value c = object (
    member (codes "id") (natural c.id) (
    member (codes "off") (natural c.offset) (
    member (codes "size") (natural c.size) no_members)))

-- a pin from 1 to 4
abbrev pub pin_route_value : Path → ℕ → Data
pin_route_value p pin = object (
    member (codes "pin") (string (pin_text pin)) (
    member (codes "root_device") (natural (root_device p)) (
    member (codes "root_pin") (string (pin_text (root_pin p pin))) no_members)))

-- pin 0 says that there is none
abbrev pub interrupt_value : Path → ℕ → Data
interrupt_value p pin = if pin == 0 then null else pin_route_value p pin

-- the addresses from the first to the last
abbrev pub range_value : ℕ → ℕ → Data
range_value first last = object (
    member (codes "first") (natural first) (
    member (codes "last") (natural last) no_members))

abbrev pub windows_value : Data → Data → Data → Data
windows_value io mem pref = object (
    member (codes "io") io (
    member (codes "mem") mem (
    member (codes "pref") pref no_members)))

-- the window of a bus that begins at an address: it extends over what its items need
abbrev pub items_window : (unit first : ℕ) → List PlacementItem → Data
items_window unit first [] = null
items_window unit first (i ∷ is) = range_value first (first + need unit (i ∷ is) - 1)

abbrev pub pool_window : Board → Apertures → Path → Pool → Data
pool_window b a p pool = items_window (unit_of pool) (bus_first b a pool p) (items_on b a pool p)

abbrev pub bridge_windows : Board → Apertures → Path → Data
bridge_windows b a p = windows_value (pool_window b a p io_pool) (pool_window b a p mem_pool) (pool_window b a p pref_pool)

abbrev pub bus_numbers_value : ℕ → ℕ → ℕ → Data
bus_numbers_value primary secondary subordinate = object (
    member (codes "primary") (natural primary) (
    member (codes "secondary") (natural secondary) (
    member (codes "subordinate") (natural subordinate) no_members)))

-- ---- functions

-- on a bus, at a path, with Vendor ID and Device ID
abbrev pub endpoint_value : ℕ → Path → ℕ → ℕ → List Data → Data → List Data → Data
endpoint_value bus p vendor device capabilities interrupt regions = object (
    member (codes "bus") (natural bus) (
    member (codes "capabilities") (array_of capabilities) (
    member (codes "device") (natural (last_part p).device) (
    member (codes "device_id") (natural device) (
    member (codes "function") (natural (last_part p).function) (
    member (codes "interrupt") interrupt (
    member (codes "path") (string (path_text p)) (
    member (codes "regions") (array_of regions) (
    member (codes "type") (string (codes "endpoint")) (
    member (codes "vendor") (natural vendor) no_members))))))))))

abbrev pub bridge_value : ℕ → Path → ℕ → ℕ → Data → Data → Data
bridge_value bus p vendor device buses windows = object (
    member (codes "bus") (natural bus) (
    member (codes "buses") buses (
    member (codes "device") (natural (last_part p).device) (
    member (codes "device_id") (natural device) (
    member (codes "function") (natural (last_part p).function) (
    member (codes "path") (string (path_text p)) (
    member (codes "type") (string (codes "bridge")) (
    member (codes "vendor") (natural vendor) (
    member (codes "windows") windows no_members)))))))))

abbrev pub row_value : Board → Apertures → Row → Data
row_value b a r =
    elim r.decl [
      | endpoint d ↦
          endpoint_value (bus_of b r.path) r.path d.vendor d.device (map capability_value (listed d))
          (interrupt_value r.path d.pin) (map (λ q. region_value (placed_base b a r.path q)) d.regions)
      | bridge d ↦
          bridge_value (bus_of b r.path) r.path d.vendor d.device
          (bus_numbers_value (bus_of b r.path) (secondary b r.path) (subordinate b r.path)) (bridge_windows b a r.path)
    ]

-- ---- guests

abbrev pub slot_value : ℕ → Path → Data
slot_value n p = object (
    member (codes "path") (string (path_text p)) (
    member (codes "slot") (natural n) no_members))

-- from slot n on
abbrev pub slot_values : ℕ → List Path → List Data
slot_values n [] = []
slot_values n (p ∷ ps) = slot_value n p ∷ slot_values (n + 1) ps

abbrev pub guest_value : Guest → Data
guest_value g = object (
    member (codes "name") (string g.name) (
    member (codes "slots") (array_of (slot_values 0 g.slots)) no_members))

-- ---- the whole

-- how many bridges and endpoints, all functions, and the guests
abbrev pub board_value : ℕ → ℕ → List Data → List Guest → Data
board_value bridges endpoints functions guests = object (
    member (codes "bridges") (natural bridges) (
    member (codes "endpoints") (natural endpoints) (
    member (codes "functions") (array_of functions) (
    member (codes "guests") (array_of (map guest_value guests)) no_members))))

abbrev pub report_value : World → Data
report_value w =
    board_value (count_by (λ r. is_bridge r.decl) w.board) (count_by (λ r. not (is_bridge r.decl)) w.board)
    (map (row_value w.board w.apertures) w.board) w.guests

abbrev pub value_line : Data → Text
value_line d = compact_text d ++ 10 ∷ []

abbrev pub report_json_text : World → Text
report_json_text w = value_line (report_value w)
