-- The CONFIG_ADDRESS register, which selects the target of CONFIG_DATA: PCI Local Bus 3.0, chapter 3.2.2.3.2. Its bits:
-- 31 enable, 23..16 bus, 15..11 device, 10..8 function, 7..2 register; all other bits read 0.
--     latched v      the value of CONFIG_ADDRESS after v is written
--     is_enabled, selected_bus, selected_device, selected_function, selected_register      the fields of CONFIG_ADDRESS
--     is_address_port a w, is_data_port a      an access of w bytes at a accesses CONFIG_ADDRESS; a is a port of CONFIG_DATA
--     selected_offset latch a      the offset of the byte that port a of CONFIG_DATA accesses
use Rattle.std.specs.Prelude.{ℕ, ◌+◌, ◌-◌, ◌*◌, ◌/◌, ◌%◌, ◌^◌, bit_and, Bool, ◌&&◌, ◌==◌, nat_le}

abbrev pub latched : ℕ → ℕ
latched v = bit_and v 0x80fffffc

abbrev pub is_enabled : ℕ → Bool
is_enabled latch = latch / 2 ^ 31 % 2 == 1

abbrev pub selected_bus : ℕ → ℕ
selected_bus latch = latch / 2 ^ 16 % 2 ^ 8

abbrev pub selected_device : ℕ → ℕ
selected_device latch = latch / 2 ^ 11 % 2 ^ 5

abbrev pub selected_function : ℕ → ℕ
selected_function latch = latch / 2 ^ 8 % 2 ^ 3

-- the offset of the selected word
abbrev pub selected_register : ℕ → ℕ
selected_register latch = latch / 2 ^ 2 % 2 ^ 6 * 4

-- only a 4-byte access at CF8h accesses CONFIG_ADDRESS
abbrev pub is_address_port : ℕ → ℕ → Bool
is_address_port a w = a == 0xcf8 && w == 4

-- CFCh to CFFh
abbrev pub is_data_port : ℕ → Bool
is_data_port a = nat_le 0xcfc a && nat_le a 0xcff

abbrev pub selected_offset : ℕ → ℕ → ℕ
selected_offset latch a = selected_register latch + (a - 0xcfc)
