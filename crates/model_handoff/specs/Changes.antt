-- Counts the events that may move regions of a guest's functions: PCI Local Bus 3.0, chapter 6.2.5.
--     lands_own g t w      w bytes at a place include a byte of the guest's Command or base address registers
--     moves_own g e      an accepted event of the guest that writes such a byte, with any value
--     moves_by_call name gs c      such an event of the guest, a successful move out of or into one of the guest's slots,
--                                  or a successful reset in one
--     changes name w a      such a call, or a successful assignment or unassignment in one of its slots
--     changes_along name w as      how many of these actions change the guest
--     after_change t n      a count after an action: one more if the action changes the guest, modulo 2^64
--     counts_after      the counts of all guests, in the order of their names
--     MachineNow, after_on_machine      a world with a count for each of its guests, and after an action
--     after_line_on_machine, after_all_on_machine      and after a line of a script, and after several actions
--     machine_protocol      the output of a line of a script, and the machine after it, as a protocol
--     BeginsIn P m      P holds for the machine's world, and all its counts are 0
use Rattle.std.specs.{Prelude.{◌≡◌, ◌+◌, ◌^◌, ◌%◌, ◌&&◌, ◌||◌, ℕ, Bool, false, not, List, [], ◌∷◌, if◌then◌else◌, is_some, map}, Option.option_map_or, Str.bytes_eq}
use Rattle.model_guests.specs.{Accesses.{Target, Event, access, raises}, Slots.{Landing, fault_of}, Text.Text, Lone.LoneGuest, Guests.{GuestNow, GuestsNow, lone_of, move_fault}, Lines.{nothing, guest_event, host_read, host_move, bad, meaning}, DeviceEvents.{resets, device_reads, device_writes, slot_fault}, Calls.{Call, asks, at_device}, WorldNow.{WorldNow, names_now, line_output}, LineRuns.Protocol}
use Rattle.model_handoff.specs.{Located.located, StayLaws.{any_tells, is_write}, Giving.{give_fault, take_fault}, Actions.{Action, calls, gives, takes, after_action}}

abbrev pub lands_own : LoneGuest → Target → ℕ → Bool
lands_own g t w = option_map_or (λ (l : Landing). any_tells w l.place) (located g t) false

abbrev pub moves_own : LoneGuest → Event → Bool
moves_own g (access a) = is_write a.op && not (is_some (fault_of a)) && lands_own g a.target a.width
moves_own g (raises r) = false

abbrev pub moves_by_call : Text → GuestsNow → Call → Bool
moves_by_call name gs (asks nothing) = false
moves_by_call name gs (asks (guest_event n e)) = bytes_eq n name && moves_own (lone_of gs n) e
moves_by_call name gs (asks (host_read r)) = false
moves_by_call name gs (asks (host_move m)) =
    not (is_some (move_fault gs m)) && (bytes_eq m.from name || bytes_eq m.to name)
moves_by_call name gs (asks (bad who k)) = false
moves_by_call name gs (at_device n (resets k)) = bytes_eq n name && not (is_some (slot_fault (lone_of gs n).slots k))
moves_by_call name gs (at_device n (device_reads d)) = false
moves_by_call name gs (at_device n (device_writes d v)) = false

abbrev pub changes : Text → WorldNow → Action → Bool
changes name w (calls c) = moves_by_call name w.guests c
changes name w (gives g) = bytes_eq g.to name && not (is_some (give_fault w g))
changes name w (takes n k) = bytes_eq n name && not (is_some (take_fault w n k))

abbrev pub changes_along : Text → WorldNow → List Action → ℕ
changes_along name w [] = 0
changes_along name w (a ∷ more) =
    (if changes name w a then 1 else 0) + changes_along name (after_action w a) more

-- ---- counts

abbrev pub after_change : Bool → ℕ → ℕ
after_change t n = if t then (n + 1) % 2 ^ 64 else n

-- the counts after the last name stay
abbrev pub counts_where : (Text → Bool) → List Text → List ℕ → List ℕ
counts_where test [] ns = ns
counts_where test (t ∷ ts) [] = []
counts_where test (t ∷ ts) (n ∷ ns) = after_change (test t) n ∷ counts_where test ts ns

pub record MachineNow : Type 0 where
  pub world : WorldNow
  pub counts : List ℕ

abbrev pub after_on_machine : MachineNow → Action → MachineNow
after_on_machine m a = record {
  world = after_action m.world a;
  counts = counts_where (λ name. changes name m.world a) (names_now m.world) m.counts;
}

-- a line of a script
abbrev pub after_line_on_machine : MachineNow → Text → MachineNow
after_line_on_machine m line = after_on_machine m (calls (asks (meaning (names_now m.world) line)))

abbrev pub after_all_on_machine : MachineNow → List Action → MachineNow
after_all_on_machine m [] = m
after_all_on_machine m (a ∷ more) = after_all_on_machine (after_on_machine m a) more

abbrev pub machine_protocol : Protocol MachineNow
machine_protocol = record { writes = λ m line. line_output m.world line; next = after_line_on_machine }

-- one for each guest
pub record BeginsIn (P : WorldNow → Type 0) (m : MachineNow) : Type 0 where
  pub world : P m.world
  pub counts : m.counts ≡ map (λ (g : GuestNow). 0) m.world.guests
