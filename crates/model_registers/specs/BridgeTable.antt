-- The registers of a bridge: PCI-to-PCI Bridge Architecture 1.2, chapter 3.2.
--     Window      a first and a last address, both included
--     BridgeValues      the values that set-up writes into a bridge
--     bridge_header      the registers of the header, without the windows
--     bridge_file, bridge_reset      the cells of a bridge with these values, and at reset
use Rattle.std.specs.Prelude.{[], ℕ, ◌+◌, ◌*◌, ◌/◌, ◌%◌, Bool, ◌^◌, ◌++◌}
use Rattle.model_registers.specs.{Registers.{config, File, field}, Declarations.{IoDecode, no_io, io16, io32, PrefDecode, no_pref, pref32, pref64, Bridge}, EndpointTable.header_type}

-- a first and a last address, both included; as in the registers of a window, the first may exceed the last
pub record Window : Type 0 where
  pub first : ℕ
  pub last : ℕ

-- the values that set-up writes into a bridge
pub record BridgeValues : Type 0 where
  pub command : ℕ
  pub primary : ℕ
  pub secondary : ℕ
  pub subordinate : ℕ
  pub io : Window
  pub mem : Window
  pub pref : Window

-- a window register: the bits above 3 are address bits, starting at a power of two, and bits 3..0 read `decode`
abbrev pub address_bits : ℕ → ℕ → ℕ → ℕ
address_bits unit address decode = address / unit % 2 ^ 12 * 16 + decode

abbrev pub io_cells : IoDecode → Window → File
io_cells no_io s = []
io_cells io16 s =
    field (config 0x1c) 1 (address_bits (2 ^ 12) s.first 0) 0xf0 0
    ++ field (config 0x1d) 1 (address_bits (2 ^ 12) s.last 0) 0xf0 0
io_cells io32 s =
    field (config 0x1c) 1 (address_bits (2 ^ 12) s.first 1) 0xf0 0
    ++ field (config 0x1d) 1 (address_bits (2 ^ 12) s.last 1) 0xf0 0
    ++ field (config 0x30) 2 (s.first / 2 ^ 16) 0xffff 0 ++ field (config 0x32) 2 (s.last / 2 ^ 16) 0xffff 0

abbrev pub mem_cells : Window → File
mem_cells s =
    field (config 0x20) 2 (address_bits (2 ^ 20) s.first 0) 0xfff0 0
    ++ field (config 0x22) 2 (address_bits (2 ^ 20) s.last 0) 0xfff0 0

abbrev pub pref_cells : PrefDecode → Window → File
pref_cells no_pref s = []
pref_cells pref32 s =
    field (config 0x24) 2 (address_bits (2 ^ 20) s.first 0) 0xfff0 0
    ++ field (config 0x26) 2 (address_bits (2 ^ 20) s.last 0) 0xfff0 0
pref_cells pref64 s =
    field (config 0x24) 2 (address_bits (2 ^ 20) s.first 1) 0xfff0 0
    ++ field (config 0x26) 2 (address_bits (2 ^ 20) s.last 1) 0xfff0 0
    ++ field (config 0x28) 4 (s.first / 2 ^ 32) 0xffffffff 0 ++ field (config 0x2c) 4 (s.last / 2 ^ 32) 0xffffffff 0

-- the header with these values, without windows
abbrev pub bridge_header : Bridge → Bool → BridgeValues → File
bridge_header d multifunction r =
    field (config 0x00) 2 d.vendor 0 0 ++ field (config 0x02) 2 d.device 0 0
    ++ field (config 0x04) 2 r.command 0x0147 0 ++ field (config 0x06) 2 d.status 0 0xf900
    ++ field (config 0x08) 1 d.revision 0 0 ++ field (config 0x09) 3 0x060400 0 0
    ++ field (config 0x0c) 2 0 0xffff 0 ++ field (config 0x0e) 1 (header_type 1 multifunction) 0 0
    ++ field (config 0x18) 1 r.primary 0xff 0 ++ field (config 0x19) 1 r.secondary 0xff 0
    ++ field (config 0x1a) 1 r.subordinate 0xff 0
    ++ field (config 0x1b) 1 0 0xff 0 ++ field (config 0x1e) 2 d.secondary_status 0 0xf900 ++ field (config 0x3c) 1 0 0xff 0

-- the cells of a bridge with these values, and all others at reset
abbrev pub bridge_file : Bridge → Bool → BridgeValues → File
bridge_file d multifunction r =
    bridge_header d multifunction r ++ (mem_cells r.mem ++ io_cells d.io r.io ++ pref_cells d.pref r.pref)

abbrev pub no_window : Window
no_window = record { first = 0; last = 0 }

abbrev pub no_bridge_values : BridgeValues
no_bridge_values = record {
  command = 0;
  primary = 0;
  secondary = 0;
  subordinate = 0;
  io = no_window;
  mem = no_window;
  pref = no_window;
}

abbrev pub bridge_reset : Bridge → Bool → File
bridge_reset d multifunction = bridge_file d multifunction no_bridge_values
