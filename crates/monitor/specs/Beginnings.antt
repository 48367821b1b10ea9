-- Guests at handover, on the board of a host.
--     world_on, world_of      the board of a host, or of a host that is set up, with guests
--     with_no_slots name      a guest of this name, whose slots are empty
--     declared_in      what a base address register opens
--     IsStanding s i p f      row i of the board is the endpoint f at reset, with the path p
--     AreSlotsAtFirst      a guest's slots, the first of them with the endpoints at these paths
use Rattle.std.specs.Prelude.{ℕ, ◌-◌, ◌≡◌, false, List, [], ◌++◌, Option, Some, None, map, option_map, length, replicate, slice_get}
use Rattle.bars.specs.declared.region.BarWithBase.{BarWithBase}
use Rattle.model_registers.specs.{Declarations.Bar, DeclarationRules.IsLawfulEndpoint, EndpointTable.endpoint_reset, Decoding.Function}
use Rattle.model_board.specs.{Paths.Path, Board.endpoint, State.State, Ports.file_at}
use Rattle.model_guests.specs.{Text.Text, World.{Guest, World, declared}, Slots.reset_slots}
use Rattle.host_bridge.specs.HostState.{HostState}
use Rattle.window_packing.specs.Readies.{ReadyBoard, board_below}
use Rattle.monitor.specs.{declared.guest.AssignedFunction.AssignedFunction, Keeping.AreSlots}

abbrev pub world_on : HostState → List Guest → World
world_on h guests = record { board = board_below h; apertures = h.apertures; guests = guests }

abbrev pub world_of : ReadyBoard → List Guest → World
world_of r guests = world_on r.host guests

abbrev pub with_no_slots : Text → Guest
with_no_slots name = record { name = name; slots = [] }

abbrev pub declared_in : Option BarWithBase → Option Bar
declared_in o = option_map (λ (r : BarWithBase). r.decl) o

pub record IsStanding (s : State) (i : ℕ) (p : Path) (f : Function) : Type 0 where
  pub lawful : IsLawfulEndpoint f.decl
  pub there : slice_get s.functions i ≡ Some (record { path = p; decl = endpoint f.decl; file = file_at s.functions p })
  pub at_reset : f.file ≡ endpoint_reset f.decl false

-- all functions are at reset, and the slots past the paths are empty
abbrev pub AreSlotsAtFirst : HostState → List Path → List (Option AssignedFunction) → Type 0
AreSlotsAtFirst h ps os =
    AreSlots h.state (map Some ps ++ replicate (32 - length ps) None)
    (reset_slots (map (declared (board_below h)) ps)) os
