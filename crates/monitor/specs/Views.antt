-- The world and the machine that a host and its guests show.
--     texts      guests' names as texts
--     function_shown, slot_shown      a function in a slot: the board's registers, with the guest's own copies put in
--     path_shown      the path of a function in a slot, as the board has it
--     guest_shown, guests_shown      guests as they are now
--     handoff_shown      the handoff, as the board shows it: with all functions in slots at reset
--     world_shown      the handoff with the guests as they are now
--     machine_shown      the world with the guests' change counts
use Rattle.std.specs.{Prelude.{List, [], ◌∷◌, Option, None, map, option_map, slice_get}, Option.option_map_or}
use Rattle.arrayvec.specs.{ArrayVec.ArrayVec, ArrayString.ArrayString}
use Rattle.model_registers.specs.{OwnCopies.own_file, Decoding.Function, CopiedFiles.with_copies}
use Rattle.model_board.specs.{Paths.Path, State.{BoardFunction, State}}
use Rattle.model_guests.specs.{Text.Text, Guests.{GuestNow, GuestsNow}, WorldNow.WorldNow}
use Rattle.model_handoff.specs.{ViewLaws.with_seated_reset, Changes.MachineNow}
use Rattle.bridge_forward.specs.Lending.{endpoint_nth}
use Rattle.host_bridge.specs.HostState.{HostState}
use Rattle.monitor.specs.{declared.guest.{AssignedFunction.AssignedFunction, Guest.Guest}, Counts.counts_of}

abbrev pub texts : ArrayVec ArrayString → List Text
texts names = map (λ n. n.bytes) names.items

abbrev pub function_shown : List BoardFunction → AssignedFunction → Option Function
function_shown fs h =
    option_map (λ (f : Function). record f { file = with_copies (own_file h.own) f.file }) (endpoint_nth fs h.index)

abbrev pub slot_shown : List BoardFunction → Option AssignedFunction → Option Function
slot_shown fs o = option_map_or (function_shown fs) o None

abbrev pub path_shown : List BoardFunction → Option AssignedFunction → Option Path
path_shown fs o = option_map_or (λ (h : AssignedFunction). option_map (λ (f : BoardFunction). f.path) (slice_get fs h.index)) o None

abbrev pub guest_shown : List BoardFunction → Text → Guest → GuestNow
guest_shown fs name g = record {
  name = name;
  paths = map (path_shown fs) g.slots.items;
  lone = record { slots = map (slot_shown fs) g.slots.items; latch = g.latch };
}

-- as many as have a name
abbrev pub guests_shown : List BoardFunction → List Text → List Guest → GuestsNow
guests_shown fs [] gs = []
guests_shown fs (t ∷ ts) [] = []
guests_shown fs (t ∷ ts) (g ∷ gs) = guest_shown fs t g ∷ guests_shown fs ts gs

unfoldable pub handoff_shown : State → GuestsNow → State
handoff_shown s gs = with_seated_reset s gs

abbrev pub world_shown : HostState → List Text → List Guest → WorldNow
world_shown h names gs = record {
  handoff = handoff_shown h.state (guests_shown h.state.functions names gs);
  guests = guests_shown h.state.functions names gs;
}

abbrev pub machine_shown : HostState → List Text → List Guest → MachineNow
machine_shown h names gs = record { world = world_shown h names gs; counts = counts_of gs }
