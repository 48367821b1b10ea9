-- The register bytes that a device itself may read and set, whatever accesses may change: PCI Local Bus 3.0, chapters
-- 6.2.3 (Status), 6.7 (Capabilities Pointer) and 6.1 (40h to FFh are device-specific).
--     is_device_byte p      a byte of Status, the Capabilities Pointer, a byte of a device-specific register in configuration
--         space, or one of a region
--     with_value v c      the cell with its value replaced and its masks kept
--     set_value v p file      the file with the low byte of v at a place; if there is no cell, nothing changes
use Rattle.std.specs.Prelude.{ℕ, ◌%◌, Bool, true, ◌||◌, ◌==◌, nat_le}
use Rattle.model_registers.specs.{Cell.Cell, Registers.{Place, config, block, File, changed}}

abbrev pub is_device_byte : Place → Bool
is_device_byte (config off) = off == 6 || off == 7 || off == 0x34 || nat_le 0x40 off
is_device_byte (block n off) = true

abbrev pub with_value : ℕ → Cell → Cell
with_value v c = record c { value = v }

abbrev pub set_value : ℕ → Place → File → File
set_value v p file = changed (with_value (v % 256)) p file
