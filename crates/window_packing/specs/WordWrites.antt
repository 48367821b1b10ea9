-- Configuration writes of words: PCI Local Bus 3.0, chapter 3.2.2.3; PCI-to-PCI Bridge Architecture 1.2, chapter 3.2.5.
--     WordWrite      the enabled bytes of the word at an offset
--     after_word, after_words      the functions after these writes to the function at a BDF
--     base_words, endpoint_words, bridge_words      the writes that set a region's base and a function's registers
--     words_of, after_settings      the writes of a setting, and the functions after settings in order
--     host_after      the host with such functions and the address latch clear
use Rattle.std.specs.Prelude.{List, [], ◌∷◌, ◌++◌, ℕ, ◌+◌, ◌*◌, ◌/◌, ◌%◌, ◌^◌, ◌==◌, if◌then◌else◌, flat_map}
use Rattle.model_registers.specs.{ByteEnables.lanes, Declarations.registers_of, EndpointTable.BaseAddress, BridgeTable.{Window, address_bits}}
use Rattle.model_board.specs.{State.BoardFunction, Cycles.BusAddress, Ports.after_config_write}
use Rattle.model_set_up.specs.SetUpWrites.{Windows, RegisterValues, to_endpoint, to_bridge, FunctionProgram}
use Rattle.host_bridge.specs.HostState.{HostState, with_functions, with_latch}

pub record WordWrite : Type 0 where
  pub offset : ℕ
  pub enables : ℕ
  pub value : ℕ

abbrev pub word : ℕ → ℕ → ℕ → WordWrite
word offset enables value = record { offset = offset; enables = enables; value = value }

unfoldable pub after_word : BusAddress → WordWrite → List BoardFunction → List BoardFunction
after_word at w fs = after_config_write fs at w.offset (lanes w.enables) w.value

abbrev pub after_words : BusAddress → List WordWrite → List BoardFunction → List BoardFunction
after_words at [] fs = fs
after_words at (w ∷ ws) fs = after_words at ws (after_word at w fs)

-- ---- the words of a function

-- the next register holds the upper half of a 64-bit base
abbrev pub base_words : BaseAddress → List WordWrite
base_words b =
    word (0x10 + 4 * b.index) 0xf (b.base % 2 ^ 32)
    ∷ (if registers_of b.kind == 2 then word (0x10 + 4 * (b.index + 1)) 0xf (b.base / 2 ^ 32) ∷ [] else [])

-- the low half of the word of Command alone, so that Status stays
abbrev pub endpoint_words : ℕ → List BaseAddress → List WordWrite
endpoint_words command bases = flat_map base_words bases ++ word 0x04 3 command ∷ []

-- a base and a limit of two bytes each; and of one byte each
abbrev pub memory_base_and_limit : Window → ℕ
memory_base_and_limit s = address_bits (2 ^ 20) s.first 0 + address_bits (2 ^ 20) s.last 0 * 2 ^ 16

abbrev pub io_base_and_limit : Window → ℕ
io_base_and_limit s = address_bits (2 ^ 12) s.first 0 % 2 ^ 8 + address_bits (2 ^ 12) s.last 0 % 2 ^ 8 * 2 ^ 8

abbrev pub io_base_and_limit_upper : Window → ℕ
io_base_and_limit_upper s = s.first / 2 ^ 16 % 2 ^ 16 + s.last / 2 ^ 16 % 2 ^ 16 * 2 ^ 16

-- Secondary Status, above the I/O base and limit, stays; registers that the bridge doesn't implement drop what is
-- written
abbrev pub bridge_words : Windows → List WordWrite
bridge_words w =
    word 0x1c 3 (io_base_and_limit w.io) ∷ word 0x20 0xf (memory_base_and_limit w.mem) ∷ word 0x24 0xf (memory_base_and_limit w.pref)
    ∷ word 0x28 0xf (w.pref.first / 2 ^ 32) ∷ word 0x2c 0xf (w.pref.last / 2 ^ 32) ∷ word 0x30 0xf (io_base_and_limit_upper w.io)
    ∷ word 0x04 3 3 ∷ []

-- ---- settings

abbrev pub words_of : RegisterValues → List WordWrite
words_of (to_endpoint command bases) = endpoint_words command bases
words_of (to_bridge windows) = bridge_words windows

abbrev pub after_settings : List FunctionProgram → List BoardFunction → List BoardFunction
after_settings [] fs = fs
after_settings (s ∷ ss) fs = after_settings ss (after_words s.at (words_of s.writes) fs)

abbrev pub host_after : List BoardFunction → HostState → HostState
host_after fs h = with_latch 0 (with_functions fs h)
