-- Events that a device causes in a guest's slot, other than raises. No line of a script requests them.
-- PCI Local Bus 3.0, chapters 2.2.1 (RST#) and 6.1 (a device's own registers).
--     DeviceByte      a byte of the function in a slot, given like the byte of a raise
--     DeviceEvent      the function in the slot is reset, or its device reads or writes one of its bytes
--     device_place f part off      the place of such a byte, if the device may access it
--     device_fault      the checks, in order
--     reset_in n      the function in slot n is at reset, as if it had just been moved there
--     byte_in, with_byte      the cell's value, whatever its masks; the slots with another value in the cell
--     device_answer, after_device_event      the reply, and the guest after it
--     after_guest_device, after_device      all guests after it, and the world
use Rattle.std.specs.{Prelude.{ℕ, not, nat_le, if◌then◌else◌, is_some, Option, Some, None}, Option.option_map_or}
use Rattle.model_registers.specs.{Registers.{Place, cell_at}, DeviceBytes.{is_device_byte, set_value}, Decoding.Function}
use Rattle.model_guests.specs.{Accesses.{RaisePlace, Reply, answered, done, refused}, Slots.{Slots, slot_at, file_at, with_file, raise_place}, Text.Text, Lone.{LoneGuest, filled}, Guests.{GuestNow, GuestsNow, with_guest}, WorldNow.WorldNow}

pub record DeviceByte : Type 0 where
  pub slot : ℕ
  pub part : RaisePlace
  pub offset : ℕ

-- a write has a value, whose low byte is written
pub data DeviceEvent : Type 0 where
  resets : ℕ → DeviceEvent
  device_reads : DeviceByte → DeviceEvent
  device_writes : DeviceByte → ℕ → DeviceEvent

-- the slot's number, the slot's function
abbrev pub slot_fault : Slots → ℕ → Option ℕ
slot_fault slots n =
    if nat_le 32 n then Some 303
    else (if not (is_some (slot_at slots n)) then Some 601 else None)

abbrev pub if_device_byte : Option Place → Option Place
if_device_byte None = None
if_device_byte (Some p) = if is_device_byte p then Some p else None

abbrev pub device_place : Function → RaisePlace → ℕ → Option Place
device_place f part off = if_device_byte (raise_place f part off)

abbrev pub byte_landing : Option Function → DeviceByte → Option Place
byte_landing None d = None
byte_landing (Some f) d = device_place f d.part d.offset

-- the slot's number, the slot's function, the place in it
abbrev pub byte_fault : Slots → DeviceByte → Option ℕ
byte_fault slots d =
    if nat_le 32 d.slot then Some 303
    else (if not (is_some (slot_at slots d.slot)) then Some 601
    else (if not (is_some (byte_landing (slot_at slots d.slot) d)) then Some 303 else None))

abbrev pub device_fault : Slots → DeviceEvent → Option ℕ
device_fault slots (resets n) = slot_fault slots n
device_fault slots (device_reads d) = byte_fault slots d
device_fault slots (device_writes d v) = byte_fault slots d

abbrev pub reset_in : ℕ → LoneGuest → LoneGuest
reset_in n g = option_map_or (λ (f : Function). filled n f.decl g) (slot_at g.slots n) g

-- 0 if there is no cell
abbrev pub byte_in : Slots → DeviceByte → ℕ
byte_in slots d =
    option_map_or (λ (p : Place). (cell_at (file_at slots d.slot) p).value) (byte_landing (slot_at slots d.slot) d) 0

-- nothing changes if there is no cell
abbrev pub with_byte : DeviceByte → ℕ → Slots → Slots
with_byte d v slots =
    option_map_or (λ (p : Place). with_file (set_value v p) d.slot slots) (byte_landing (slot_at slots d.slot) d) slots

abbrev pub device_performed : LoneGuest → DeviceEvent → Reply
device_performed g (resets n) = done
device_performed g (device_reads d) = answered (byte_in g.slots d) 1
device_performed g (device_writes d v) = done

abbrev pub device_changed : LoneGuest → DeviceEvent → LoneGuest
device_changed g (resets n) = reset_in n g
device_changed g (device_reads d) = g
device_changed g (device_writes d v) = record g { slots = with_byte d v g.slots }

-- the checks come first
abbrev pub device_answer : LoneGuest → DeviceEvent → Reply
device_answer g e = option_map_or refused (device_fault g.slots e) (device_performed g e)

-- a refused event changes nothing
abbrev pub after_device_event : LoneGuest → DeviceEvent → LoneGuest
after_device_event g e = if is_some (device_fault g.slots e) then g else device_changed g e

abbrev pub device_after : DeviceEvent → GuestNow → GuestNow
device_after e g = record g { lone = after_device_event g.lone e }

abbrev pub after_guest_device : Text → DeviceEvent → GuestsNow → GuestsNow
after_guest_device name e gs = with_guest (device_after e) name gs

abbrev pub after_device : WorldNow → Text → DeviceEvent → WorldNow
after_device w name e = record w { guests = after_guest_device name e w.guests }
