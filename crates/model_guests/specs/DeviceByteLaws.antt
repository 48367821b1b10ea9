-- Laws of a device's reads and writes of its function's registers.
--     ReadsLeaveGuests      a read changes no guest
--     ReadsWritten      a read of an existing cell returns the written value
--     byte_change own v p      writes the low byte of v at p in a file, if the guest's file `own` has a cell there
--     WriteReachesBoard      a write changes the board in that byte of the slot's function only
use Rattle.std.specs.Prelude.{◌≡◌, ◌%◌, ℕ, if◌then◌else◌, Some, None, IsTrue}
use Rattle.model_registers.specs.{Registers.{Place, File}, FileLaws.has_place, DeviceBytes.set_value, Decoding.Function}
use Rattle.model_board.specs.Paths.{Path}
use Rattle.model_guests.specs.{Accesses.answered, Slots.slot_at, Text.Text, Lone.LoneGuest, Guests.{GuestsNow, lone_of, path_in, function_in}, AgreedBoard.{state_over, with_change_at}, ChangeLaws.OverSeated, DeviceEvents.{DeviceByte, device_reads, device_writes, device_place, device_fault, device_answer, after_device_event, after_guest_device}}

abbrev pub ReadsLeaveGuests : Type 0
ReadsLeaveGuests = (name : Text) (d : DeviceByte) (gs : GuestsNow) → after_guest_device name (device_reads d) gs ≡ gs

abbrev pub ReadsWritten : Type 0
ReadsWritten = (g : LoneGuest) (d : DeviceByte) (v : ℕ) → device_fault g.slots (device_writes d v) ≡ None
    → (f : Function) (p : Place) → slot_at g.slots d.slot ≡ Some f → device_place f d.part d.offset ≡ Some p
    → IsTrue (has_place f.file p)
    → device_answer (after_device_event g (device_writes d v)) (device_reads d) ≡ answered (v % 256) 1

abbrev pub byte_change : File → ℕ → Place → File → File
byte_change own v p file = if has_place own p then set_value v p file else file

abbrev pub WriteReachesBoard : Type 0
WriteReachesBoard = OverSeated (λ s gs. (name : Text) (d : DeviceByte) (v : ℕ)
    → device_fault (lone_of gs name).slots (device_writes d v) ≡ None
    → (p : Path) (f : Function) (q : Place) → path_in gs name d.slot ≡ Some p → function_in gs name d.slot ≡ Some f
    → device_place f d.part d.offset ≡ Some q
    → state_over s (after_guest_device name (device_writes d v) gs)
    ≡ with_change_at (byte_change f.file v q) p (state_over s gs))
