-- The results of a device's event at a guest's function, and of accesses to consecutive bytes by the device or by the
-- function's guest, as C receives them.
--     reply_at_device, after_at_device      such an event of a guest by its index: the reply, and the machine after it
--     byte_of b      a byte of a function in a slot, from the code's types
--     bytes_from d n      n bytes of a function in a slot, from one on
--     read_reply side, after_byte side      a read of a byte: the reply; and a write: the machine after it
--     read_le_bytes side w guest ds      the number that is read of bytes, the lowest first, or why the first is refused
--     after_bytes side m guest ds v      the machine after a number was written into bytes, the lowest first
--     find_access_error off n      302 for an invalid width, or 303 if offset plus width doesn't fit in 64 bits
--     wide_read side w guest d n      what is read of n bytes, or the number of the first of these refusals
--     after_wide side m guest d n v      the machine after a number was written there, if they can be read
use Rattle.std.specs.{Prelude.{ℕ, zero, suc, ◌+◌, ◌*◌, ◌/◌, ◌%◌, ◌^◌, ◌==◌, ◌||◌, nat_lt, nat_le, List, [], ◌∷◌, if◌then◌else◌, is_ok, Option, None, Some, Result, Ok, Err}, Option.option_map_or}
use Rattle.model_guests.specs.{Accesses.{Reply, answered, done, refused, reads, writes}, Guests.lone_of, WorldNow.WorldNow, Calls.at_device, DeviceEvents.{DeviceByte, DeviceEvent, device_reads, device_writes, device_answer}}
use Rattle.model_handoff.specs.{Actions.calls, Changes.{MachineNow, after_on_machine}, RegionBytes.byte_reply}
use Rattle.monitor.specs.{ByIndex.{name_nth, lone_nth}, Counts.after_byte_nth, DeviceBytes.device_byte}
use Rattle.pciguest_c.specs.declared.values.arguments.{Byte.Byte, Side.{Side, TheVariants.{Device, Guest}}}

abbrev pub reply_at_device : WorldNow → ℕ → DeviceEvent → Reply
reply_at_device w guest e = device_answer (lone_of w.guests (name_nth w guest)) e

abbrev pub after_at_device : MachineNow → ℕ → DeviceEvent → MachineNow
after_at_device m guest e = after_on_machine m (calls (at_device (name_nth m.world guest) e))

-- ---- bytes side by side

abbrev pub byte_of : Byte → DeviceByte
byte_of b = device_byte b.slot b.place b.offset

abbrev pub next_byte : DeviceByte → DeviceByte
next_byte d = record d { offset = d.offset + 1 }

abbrev pub bytes_from : DeviceByte → ℕ → List DeviceByte
bytes_from d zero = []
bytes_from d (suc n) = d ∷ bytes_from (next_byte d) n

-- a cell holds a byte
abbrev pub byte_told : Reply → Result ℕ ℕ
byte_told (answered v w) = Ok (v % 256)
byte_told done = Ok 0
byte_told (refused n) = Err n

-- a guest reaches a region alone, and by its own Command
abbrev pub read_reply : Side → WorldNow → ℕ → DeviceByte → Reply
read_reply Device w guest d = reply_at_device w guest (device_reads d)
read_reply Guest w guest d = byte_reply (lone_nth w guest) reads d

abbrev pub after_byte : Side → MachineNow → ℕ → DeviceByte → ℕ → MachineNow
after_byte Device m guest d v = after_at_device m guest (device_writes d v)
after_byte Guest m guest d v = after_byte_nth guest (writes v) d m

abbrev pub read_byte : Side → WorldNow → ℕ → DeviceByte → Result ℕ ℕ
read_byte side w guest d = byte_told (read_reply side w guest d)

-- a number with one more byte, which is the lowest
abbrev pub put_below : Result ℕ ℕ → Result ℕ ℕ → Result ℕ ℕ
put_below (Ok byte) (Ok n) = Ok (byte + 256 * n)
put_below (Ok byte) (Err n) = Err n
put_below (Err n) above = Err n

abbrev pub read_le_bytes : Side → WorldNow → ℕ → List DeviceByte → Result ℕ ℕ
read_le_bytes side w guest [] = Ok 0
read_le_bytes side w guest (d ∷ ds) = put_below (read_byte side w guest d) (read_le_bytes side w guest ds)

abbrev pub after_bytes : Side → MachineNow → ℕ → List DeviceByte → ℕ → MachineNow
after_bytes side m guest [] v = m
after_bytes side m guest (d ∷ ds) v = after_bytes side (after_byte side m guest d (v % 256)) guest ds (v / 256)

-- ---- accesses of 1 to 8 bytes

abbrev pub find_access_error : ℕ → ℕ → Option ℕ
find_access_error off n =
    if n == 0 || nat_lt 8 n then Some 302
    else (if nat_le (2 ^ 64) (off + n) then Some 303 else None)

abbrev pub wide_read : Side → WorldNow → ℕ → DeviceByte → ℕ → Result ℕ ℕ
wide_read side w guest d n = option_map_or Err (find_access_error d.offset n) (read_le_bytes side w guest (bytes_from d n))

-- refused as a read of the same bytes is: then none is written
abbrev pub after_wide : Side → MachineNow → ℕ → DeviceByte → ℕ → ℕ → MachineNow
after_wide side m guest d n v =
    if is_ok (wide_read side m.world guest d n) then after_bytes side m guest (bytes_from d n) v else m
