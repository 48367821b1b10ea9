-- Worked examples that no row of tests/rows can ask: states inside a scan, items in any order, windows of every decode and what
-- they forward, and cycles that no line makes.
use Rattle.std.{proofs.Common.{◌≡◌, ℕ, Bool, List, [], ◌∷◌, ◌++◌, true, false, Option, Some, None, refl}, specs.{Prelude.map, Option.option_map}}
use Rattle.model_registers.specs.{ByteEnables.lanes, Declarations.{io32, pref32, Bridge}, EndpointTable.endpoint_file, BridgeTable.{Window, bridge_file}, Decoding.{Space, io, memory}}
use Rattle.model_board.specs.{Paths.Path, Board.{endpoint, bridge}, State.{State, BoardFunction}, Cycles.reached, AtReset.reset_state, Windows.{Window, io_window, mem_window, pref_window, forwards, window as window_between}, Ports.{config_reply, after_memory_write}, Examples.{part, first_endpoint, main_board, main_bridge, main_apertures, memory_bridge, many_bridges}}
use Rattle.model_set_up.specs.{Placement.{a_region, PlacementItem, in_order}, Scanning.{no_numbers, scan_numbers, scan_state}, ScanOrder.{on, met, next_devfn_to_probe}, SetUp.set_up_state}

abbrev bridge_path : Path
bridge_path = part 2 0 ∷ []

-- ---- the bridge before its side is scanned, while it is, and after

pub before_bridge : scan_numbers main_board (on [] 16) bridge_path ≡ no_numbers
before_bridge = refl

pub behind_bridge : scan_numbers main_board (on bridge_path 0) bridge_path ≡ record { primary = 0; secondary = 1; subordinate = 0xff }
behind_bridge = refl

pub after_bridge : scan_numbers main_board (on [] 24) bridge_path ≡ record { primary = 0; secondary = 1; subordinate = 1 }
after_bridge = refl

-- ---- a cycle behind the bridge finds its functions while its side is scanned, and nothing before

abbrev path_found : Path → Path → ℕ → Option Path
path_found here bus n = option_map (λ f. f.path) (reached (scan_state main_board here).functions (record { bus = n; part = part 1 0 }))

pub found_behind : path_found (on bridge_path 8) bridge_path 1 ≡ Some (part 2 0 ∷ part 1 0 ∷ [])
found_behind = refl

pub not_found_before : path_found (on [] 16) bridge_path 1 ≡ None
not_found_before = refl

-- ---- parts: devices 1 and 2 of bus 0 hold one function each, and device 0 of the larger board eight

pub next_device : next_devfn_to_probe main_board [] 8 ≡ 16
next_device = refl

pub next_function : next_devfn_to_probe many_bridges [] 0 ≡ 1
next_function = refl

pub met_behind : map (λ r. r.path) (met main_board (on bridge_path 8)) ≡ (part 1 0 ∷ []) ∷ bridge_path ∷ (part 2 0 ∷ part 0 0 ∷ []) ∷ []
met_behind = refl

-- ---- of 255 bridges the last has the last number, and the sides above are open

pub last_met : scan_numbers many_bridges (on (part 15 7 ∷ []) 0) (part 15 7 ∷ []) ≡ record { primary = 0; secondary = 255; subordinate = 255 }
last_met = refl

pub first_done : scan_numbers many_bridges (on (part 15 7 ∷ []) 0) (part 0 0 ∷ []) ≡ record { primary = 0; secondary = 1; subordinate = 2 }
first_done = refl

-- ---- items

abbrev item : ℕ → ℕ → ℕ → ℕ → PlacementItem
item d f n size = record { part = part d f; what = a_region n; align = size; size = size }

-- in whatever order they come
pub order_of_items : in_order (item 1 1 0 4096 ∷ item 2 0 0 8192 ∷ item 1 0 3 4096 ∷ item 0 7 0 16 ∷ item 1 0 2 4096 ∷ [])
    ≡ item 2 0 0 8192 ∷ item 1 0 2 4096 ∷ item 1 0 3 4096 ∷ item 1 1 0 4096 ∷ item 0 7 0 16 ∷ []
order_of_items = refl

-- ---- what window registers name

abbrev between : ℕ → ℕ → Window
between first last = record { first = first; last = last }

-- a bridge with this Command, I/O, memory and prefetchable window
abbrev set_to : Bridge → ℕ → Window → Window → Window → BoardFunction
set_to d command x y z = record {
  path = bridge_path;
  decl = bridge d;
  file = bridge_file d false (record { command = command; primary = 0; secondary = 1; subordinate = 1; io = x; mem = y; pref = z });
}

abbrev named : ℕ → ℕ → Option Window
named first last = Some (record { first = first; last = last })

abbrev all_windows : Bridge → Window → Window → Window → List (Option Window)
all_windows d x y z = let file = (set_to d 3 x y z).file in io_window d.io file ∷ mem_window file ∷ pref_window d.pref file ∷ []

-- registers of 0 name the lowest unit, and those that are not there name nothing
pub windows_at_reset : all_windows main_bridge (between 0 0) (between 0 0) (between 0 0) ++ all_windows memory_bridge (between 0 0) (between 0 0) (between 0 0)
    ≡ named 0 0xfff ∷ named 0 0xfffff ∷ named 0 0xfffff ∷ None ∷ named 0 0xfffff ∷ None ∷ []
windows_at_reset = refl

pub windows_named : all_windows main_bridge (between 0x1000 0x2fff) (between 0xc0000000 0xc02fffff) (between 0x400000000 0x400ffffff)
    ≡ named 0x1000 0x2fff ∷ named 0xc0000000 0xc02fffff ∷ named 0x400000000 0x400ffffff ∷ []
windows_named = refl

-- upper registers count with the wider decode alone
pub upper_registers :
    all_windows (record main_bridge { io = io32 }) (between 0x31000 0x42fff) (between 0 0) (between 0x1234567800100000 0x12345679001fffff)
    ++ all_windows (record main_bridge { pref = pref32 }) (between 0x31000 0x42fff) (between 0 0) (between 0x4f0000000 0x4f00fffff)
    ≡ named 0x31000 0x42fff ∷ named 0 0xfffff ∷ named 0x1234567800100000 0x12345679001fffff ∷ named 0x1000 0x2fff ∷ named 0 0xfffff ∷ named 0xf0000000 0xf00fffff ∷ []
upper_registers = refl

-- a base above its limit
pub windows_closed : all_windows main_bridge (between 0x3000 0x2fff) (between 0xc0300000 0xc02fffff) (between 0x401000000 0x400ffffff) ≡ None ∷ None ∷ None ∷ []
windows_closed = refl

pub one_address : window_between 5 5 ∷ window_between 6 5 ∷ [] ≡ named 5 5 ∷ None ∷ []
one_address = refl

-- by the Command bit of the space, from the first address of a window to the last
abbrev forwarded : ℕ → Space → List ℕ → List Bool
forwarded command space ns = map (λ n. forwards space n (set_to main_bridge command (between 0x1000 0x2fff) (between 0xc0000000 0xc02fffff) (between 0x400000000 0x400ffffff))) ns

abbrev edges : List ℕ
edges = 0xfff ∷ 0x1000 ∷ 0x2fff ∷ 0x3000 ∷ 0xbfffffff ∷ 0xc0000000 ∷ 0xc02fffff ∷ 0xc0300000 ∷ 0x3ffffffff ∷ 0x400000000 ∷ 0x400ffffff ∷ 0x401000000 ∷ []

pub io_forwarded : forwarded 1 io edges ≡ false ∷ true ∷ true ∷ false ∷ false ∷ false ∷ false ∷ false ∷ false ∷ false ∷ false ∷ false ∷ []
io_forwarded = refl

pub memory_forwarded : forwarded 2 memory edges ≡ false ∷ false ∷ false ∷ false ∷ false ∷ true ∷ true ∷ false ∷ false ∷ true ∷ true ∷ false ∷ []
memory_forwarded = refl

pub closed_by_command : forwarded 2 io (0x1000 ∷ []) ++ forwarded 1 memory (0xc0000000 ∷ 0x400000000 ∷ []) ++ forwarded 0 memory (0xc0000000 ∷ []) ≡ false ∷ false ∷ false ∷ false ∷ []
closed_by_command = refl

pub endpoints_forward_nothing : forwards memory 0 (record { path = part 1 0 ∷ []; decl = endpoint first_endpoint; file = endpoint_file first_endpoint false 3 (λ r. 0) }) ≡ false
endpoints_forward_nothing = refl

-- ---- cycles

-- of bytes that are not enabled nothing is read, where nothing answers either
pub some_bytes : config_reply (reset_state main_board).functions (record { bus = 2; part = part 0 0 }) 0 (lanes 5) ≡ 0x00ff00ff
some_bytes = refl

abbrev ready : State
ready = set_up_state main_board main_apertures

pub dropped : (after_memory_write ready 0xc0101000 4 0x12345678).functions ≡ ready.functions
dropped = refl
