-- The windows in a bridge's window registers: PCI-to-PCI Bridge Architecture 1.2, chapter 3.2.5.
--     io_window, mem_window, pref_window      the window in the registers now, if there is one; Command isn't taken into account
use Rattle.std.specs.Prelude.{ℕ, ◌+◌, ◌*◌, ◌/◌, if◌then◌else◌, ◌^◌, nat_le, Option, Some, None}
use Rattle.model_registers.specs.{Registers.{config, File, number}, Declarations.{IoDecode, no_io, io16, io32, PrefDecode, no_pref, pref32, pref64}}
pub use Rattle.model_registers.specs.BridgeTable.{Window}

-- if the base is above the limit, there is no window
abbrev pub window : ℕ → ℕ → Option Window
window first last = if nat_le first last then Some (record { first = first; last = last }) else None

-- the bits above 3 of a w-byte window register are address bits, starting at a power of two
abbrev pub window_bits : File → ℕ → ℕ → ℕ → ℕ
window_bits file off w unit = number file (config off) w / 16 * unit

abbrev pub io_window : IoDecode → File → Option Window
io_window no_io file = None
io_window io16 file = window (window_bits file 0x1c 1 (2 ^ 12)) (window_bits file 0x1d 1 (2 ^ 12) + 0xfff)
io_window io32 file = window (number file (config 0x30) 2 * 2 ^ 16 + window_bits file 0x1c 1 (2 ^ 12))
    (number file (config 0x32) 2 * 2 ^ 16 + window_bits file 0x1d 1 (2 ^ 12) + 0xfff)

abbrev pub mem_window : File → Option Window
mem_window file = window (window_bits file 0x20 2 (2 ^ 20)) (window_bits file 0x22 2 (2 ^ 20) + 0xfffff)

abbrev pub pref_window : PrefDecode → File → Option Window
pref_window no_pref file = None
pref_window pref32 file = window (window_bits file 0x24 2 (2 ^ 20)) (window_bits file 0x26 2 (2 ^ 20) + 0xfffff)
pref_window pref64 file = window (number file (config 0x28) 4 * 2 ^ 32 + window_bits file 0x24 2 (2 ^ 20))
    (number file (config 0x2c) 4 * 2 ^ 32 + window_bits file 0x26 2 (2 ^ 20) + 0xfffff)
