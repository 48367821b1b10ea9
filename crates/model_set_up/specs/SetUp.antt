-- The register state that set-up leaves: all cells at reset, except bus numbers, Command, base registers and windows.
-- PCI Local Bus 3.0, chapters 6.2.2 and 6.2.5; PCI-to-PCI Bridge Architecture 1.2, chapter 3.2.5.
--     first_of      the first address of a region
--     command_of      an endpoint's Command, which enables the spaces of its regions
--     Windows, windows_of      the windows of a bridge
--     bridge_values      the values of a bridge: Command, bus numbers and windows
--     set_up_file      the cells of a function after set-up
--     set_up_state      the state of a whole board after set-up
use Rattle.std.specs.{Prelude.{List, [], ◌∷◌, ℕ, ◌-◌, ◌+◌, ◌*◌, Bool, if◌then◌else◌}, List.list_any}
use Rattle.model_registers.specs.{Registers.File, Declarations.{Region, Endpoint}, EndpointTable.endpoint_file, BridgeTable.{Window, BridgeValues, bridge_file}, Decoding.{Space, io, memory, space_of, same_space}, Apertures.Apertures}
use Rattle.model_board.specs.{Paths.Path, Board.{Decl, endpoint, bridge, Board, has_multifunction_bit}, BusNumbers.{secondary, subordinate, bus_of}, State.{State, state_of}}
use Rattle.model_set_up.specs.{Pools.{Pool, io_pool, mem_pool, pref_pool, unit_of, bridges_above, pool_of}, Placement.{PlacementItem, need, items_on, bus_first, region_first}}

-- the region's first address, in its pool
abbrev pub first_of : Board → Apertures → Path → Region → ℕ
first_of b a p r = region_first b a (pool_of a (bridges_above b p) r.kind) p r.index

abbrev pub opens : Endpoint → Space → Bool
opens d space = list_any (λ r. same_space (space_of r.kind) space) d.regions

abbrev pub command_of : Endpoint → ℕ
command_of d = (if opens d io then 1 else 0) + (if opens d memory then 2 else 0)

-- a window without items has its base in the register's last unit, and its limit at 0
abbrev pub window_of : ℕ → ℕ → ℕ → List PlacementItem → Window
window_of unit closed first [] = record { first = closed * unit; last = 0 }
window_of unit closed first (i ∷ is) = record { first = first; last = first + need unit (i ∷ is) - 1 }

abbrev pub set_up_window : Board → Apertures → Pool → ℕ → Path → Window
set_up_window b a pool closed p = window_of (unit_of pool) closed (bus_first b a pool p) (items_on b a pool p)

pub record Windows : Type 0 where
  pub io : Window
  pub mem : Window
  pub pref : Window

abbrev pub windows_of : Board → Apertures → Path → Windows
windows_of b a p = record {
  io = set_up_window b a io_pool 0xf p;
  mem = set_up_window b a mem_pool 0xfff p;
  pref = set_up_window b a pref_pool 0xfff p;
}

abbrev pub bridge_values : Board → Apertures → Path → BridgeValues
bridge_values b a p = record {
  command = 3;
  primary = bus_of b p;
  secondary = secondary b p;
  subordinate = subordinate b p;
  io = (windows_of b a p).io;
  mem = (windows_of b a p).mem;
  pref = (windows_of b a p).pref;
}

abbrev pub set_up_file : Board → Apertures → Path → Decl → File
set_up_file b a p (endpoint d) = endpoint_file d (has_multifunction_bit b p) (command_of d) (first_of b a p)
set_up_file b a p (bridge d) = bridge_file d (has_multifunction_bit b p) (bridge_values b a p)

abbrev pub set_up_state : Board → Apertures → State
set_up_state b a = state_of b (set_up_file b a)
