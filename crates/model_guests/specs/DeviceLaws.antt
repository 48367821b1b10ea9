-- Laws of events at devices.
--     ResetByMoves      a reset has the effect of moving the function to an empty slot, if there is one, and back
--     ResetReachesBoard      it resets the function on the board, except for the bytes that guests have copies of
--     SeatedAfterDevices, NamesAfterDevices      guests stay seated, and keep their names
--     OwnAfterDevice, OthersAfterDevice      the guest's state afterwards depends only on its state before and the event; all other guests are unchanged
use Rattle.std.specs.{Prelude.{◌≡◌, ℕ, Some, None, IsFalse, IsSome}, Str.bytes_eq}
use Rattle.model_registers.specs.{Decoding.Function, CopiedFiles.after_reset}
use Rattle.model_board.specs.{Paths.Path, Board.Board}
use Rattle.model_guests.specs.{Accesses.done, Text.Text, Guests.{GuestsNow, guest_named, lone_of, path_in, function_in, Move, move_fault, after_move}, WorldNow.names_of, AgreedBoard.{state_over, with_change_at}, ChangeLaws.OverSeated, Seated.AreSeated, DeviceEvents.{DeviceEvent, resets, device_fault, device_answer, after_device_event, after_guest_device}}

abbrev pub between : Text → ℕ → Text → ℕ → Move
between a n b m = record { from = a; slot = n; to = b; target = m }

-- from slot n of the guest to slot m of any guest, and back
pub record IsMoveAndBack (gs : GuestsNow) (name : Text) (n : ℕ) (to : Text) (m : ℕ) : Type 0 where
  pub reply : device_answer (lone_of gs name) (resets n) ≡ done
  pub back_is_done : move_fault (after_move gs (between name n to m)) (between to m name n) ≡ None
  pub after : after_guest_device name (resets n) gs
      ≡ after_move (after_move gs (between name n to m)) (between to m name n)

abbrev pub ResetByMoves : Type 0
ResetByMoves = (b : Board) (gs : GuestsNow) → AreSeated b gs → (name to : Text) (n m : ℕ) → IsSome (guest_named gs to)
    → move_fault gs (between name n to m) ≡ None → IsMoveAndBack gs name n to m

abbrev pub ResetReachesBoard : Type 0
ResetReachesBoard = OverSeated (λ s gs. (name : Text) (n : ℕ)
    → device_fault (lone_of gs name).slots (resets n) ≡ None
    → (p : Path) (f : Function) → path_in gs name n ≡ Some p → function_in gs name n ≡ Some f
    → state_over s (after_guest_device name (resets n) gs) ≡ with_change_at (after_reset f.decl) p (state_over s gs))

abbrev pub SeatedAfterDevices : Type 0
SeatedAfterDevices = (b : Board) (gs : GuestsNow) → AreSeated b gs → (name : Text) (e : DeviceEvent)
    → AreSeated b (after_guest_device name e gs)

abbrev pub NamesAfterDevices : Type 0
NamesAfterDevices = (name : Text) (e : DeviceEvent) (gs : GuestsNow) → names_of (after_guest_device name e gs) ≡ names_of gs

abbrev pub OwnAfterDevice : Type 0
OwnAfterDevice = (name : Text) (e : DeviceEvent) (gs : GuestsNow) → IsSome (guest_named gs name)
    → lone_of (after_guest_device name e gs) name ≡ after_device_event (lone_of gs name) e

abbrev pub OthersAfterDevice : Type 0
OthersAfterDevice = (name other : Text) (e : DeviceEvent) (gs : GuestsNow) → IsFalse (bytes_eq name other)
    → lone_of (after_guest_device name e gs) other ≡ lone_of gs other
