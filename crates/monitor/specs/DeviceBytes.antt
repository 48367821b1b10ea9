-- A byte that a device reads or writes, as the code represents it.
--     device_byte n place off      the byte of the function in slot n
--     Reaches      the function in a slot whose device reaches the byte
--     Refuses      the slots for which such an access is refused with a number
use Rattle.std.specs.Prelude.{ℕ, List, Option, Some, ◌≡◌, ◌≤◌, true, slice_get, is_some}
use Rattle.model_registers.specs.{DeviceBytes.is_device_byte, Decoding.Function}
use Rattle.model_board.specs.{Paths.Path, State.State}
use Rattle.model_guests.specs.{Slots.Slots, DeviceEvents.{DeviceByte, device_place, byte_fault}}
use Rattle.headers.specs.{declared.place.Place.Place, Places.place_of}
use Rattle.accesses.specs.Accesses.{part_of}
use Rattle.monitor.specs.{declared.guest.AssignedFunction.AssignedFunction, Keeping.{IsHeld, AreSlots}}

abbrev pub device_byte : ℕ → Place → ℕ → DeviceByte
device_byte n place off = record { slot = n; part = part_of place; offset = off }

pub record Reaches (slots : List (Option AssignedFunction)) (n : ℕ) (place : Place) (off index : ℕ) : Type 0 where
  pub held : AssignedFunction
  pub there : slice_get slots n ≡ Some (Some held)
  pub index_is : index ≡ held.index
  pub low : n ≤ 31
  pub reaches : (s : State) (p : Path) (f : Function) → IsHeld s p f held
      → is_some (device_place f (part_of place) off) ≡ true
  pub own : is_device_byte (place_of place off) ≡ true

abbrev pub Refuses : List (Option AssignedFunction) → ℕ → Place → ℕ → ℕ → Type 0
Refuses slots n place off number =
    (s : State) (qs : List (Option Path)) (fs : Slots) → AreSlots s qs fs slots
    → byte_fault fs (device_byte n place off) ≡ Some number
