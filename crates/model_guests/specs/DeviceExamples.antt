-- Worked example: a device that counts in a register that is read-only to its driver.
--     counting, counting_guest      an endpoint with one register that its driver writes and one that it only reads; its guest
--     byte_of part off      a byte of the function in slot 0
--     counted      the guest after the device wrote 200 to the second register
--     CountingDevice      the device's reads and writes, the driver's reads afterwards, and the refusals
use Rattle.std.specs.Prelude.{[], ◌∷◌, ◌≡◌, ℕ, Some, false}
use Rattle.model_registers.specs.Declarations.{mem32, Endpoint}
use Rattle.model_board.specs.Examples.{plain, writable_cell, constant_cell}
use Rattle.model_guests.specs.{Accesses.{RaisePlace, in_config, in_region, access, configuration, reads, answered, refused}, Lone.{LoneGuest, reset_guest, answer}, DeviceEvents.{DeviceByte, device_reads, device_writes, device_answer, after_device_event}}

abbrev pub counting : Endpoint
counting =
    plain 5 0 1
    (record { index = 0; kind = mem32 false; size = 0x1000; cells = writable_cell 0 ∷ constant_cell 7 ∷ [] } ∷ [])

abbrev pub counting_guest : LoneGuest
counting_guest = reset_guest (Some counting ∷ [])

abbrev pub byte_of : RaisePlace → ℕ → DeviceByte
byte_of part off = record { slot = 0; part = part; offset = off }

abbrev pub counted : LoneGuest
counted = after_device_event counting_guest (device_writes (byte_of (in_region 0) 1) 200)

pub record CountingDevice : Type 0 where
  pub before : device_answer counting_guest (device_reads (byte_of (in_region 0) 1)) ≡ answered 7 1
  pub after : device_answer counted (device_reads (byte_of (in_region 0) 1)) ≡ answered 200 1
  pub beside : device_answer counted (device_reads (byte_of (in_region 0) 0)) ≡ answered 0 1
  -- the register after it has no cell
  pub no_cell : after_device_event counted (device_writes (byte_of (in_region 0) 2) 1) ≡ counted
  -- the driver reads Status as the device wrote it
  pub status :
      answer (after_device_event counting_guest (device_writes (byte_of in_config 6) 8))
      (access (record { target = configuration 0 6; width = 1; op = reads }))
      ≡ answered 8 1
  -- Command, identity, a byte past the region, an empty slot
  pub command : device_answer counting_guest (device_writes (byte_of in_config 4) 2) ≡ refused 303
  pub identity : device_answer counting_guest (device_reads (byte_of in_config 0)) ≡ refused 303
  pub past : device_answer counting_guest (device_reads (byte_of (in_region 0) 0x1000)) ≡ refused 303
  pub empty : device_answer counting_guest (device_reads (record (byte_of in_config 6) { slot = 1 })) ≡ refused 601
