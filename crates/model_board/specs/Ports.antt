-- The effect of an access on the board, in any register state: to a configuration register, an I/O port or a memory
-- address. PCI Local Bus 3.0, chapter 3.2.2.3.2 (CONFIG_ADDRESS and CONFIG_DATA); PCI-to-PCI Bridge Architecture 1.2,
-- chapters 3 and 4.
--     selected latch      the function that CONFIG_ADDRESS selects
--     config_reply, after_config_write      an access to the function that a configuration cycle reaches
--     claim_reply, after_claim_write      an access to the region that claims an address
--     PortTarget, port_target      the target of a port access: CONFIG_ADDRESS, a configuration cycle or a claim
--     port_reply, after_port_write      an access at a port
--     memory_reply, after_memory_write      an access at a memory address
use Rattle.std.specs.{Prelude.{List, [], ℕ, Bool, ◌&&◌, if◌then◌else◌, Option, Some, None, find}, Option.option_map_or}
use Rattle.model_registers.specs.{Registers.{config, block, File, read, write, all_bytes, number, all_ones}, ByteEnables.enabled_bits}
pub use Rattle.model_registers.specs.ConfigAddress.{latched, is_enabled, selected_register}
use Rattle.model_registers.specs.{ConfigAddress.{selected_bus, selected_device, selected_function, is_address_port, is_data_port, selected_offset}, Decoding.{io, memory}}
use Rattle.model_board.specs.{Paths.{Path, path_eq}, State.{BoardFunction, State, with_file}, Claims.{Claim, first_claim}, Cycles.{BusAddress, reached}}

-- ---- CONFIG_ADDRESS

abbrev pub selected : ℕ → BusAddress
selected latch = record {
  bus = selected_bus latch;
  part = record { device = selected_device latch; function = selected_function latch };
}

-- ---- configuration

-- the enabled bytes from an offset on; a read that no function answers returns all ones
abbrev pub config_reply : List BoardFunction → BusAddress → ℕ → List Bool → ℕ
config_reply fs at off enables =
    option_map_or (λ (f : BoardFunction). read f.file (config off) enables) (reached fs at) (enabled_bits enables)

-- a write that no function receives is dropped
abbrev pub after_config_write : List BoardFunction → BusAddress → ℕ → List Bool → ℕ → List BoardFunction
after_config_write fs at off enables v =
    option_map_or (λ (f : BoardFunction). with_file (write enables v (config off)) f.path fs) (reached fs at) fs

-- ---- claims

abbrev pub file_at : List BoardFunction → Path → File
file_at fs p = option_map_or (λ (f : BoardFunction). f.file) (find (λ f. path_eq f.path p) fs) []

-- w bytes of the region at the offset; all ones if there is no claim
abbrev pub claim_reply : List BoardFunction → ℕ → Option Claim → ℕ
claim_reply fs w None = all_ones w
claim_reply fs w (Some c) = number (file_at fs c.path) (block c.index c.offset) w

-- writes the low w bytes of v there; drops them if there is no claim
abbrev pub after_claim_write : List BoardFunction → ℕ → ℕ → Option Claim → List BoardFunction
after_claim_write fs w v None = fs
after_claim_write fs w v (Some c) = with_file (write (all_bytes w) v (block c.index c.offset)) c.path fs

-- ---- ports

-- CONFIG_ADDRESS, CONFIG_DATA with the selected function and offset, or an ordinary port
pub data PortTarget : Type 0 where
  config_address : PortTarget
  config_data : BusAddress → ℕ → PortTarget
  ordinary : PortTarget

-- only 4 bytes at CF8h access CONFIG_ADDRESS; CFCh to CFFh are CONFIG_DATA while CONFIG_ADDRESS is enabled
abbrev pub port_target : ℕ → ℕ → ℕ → PortTarget
port_target latch a w =
    if is_address_port a w then config_address
    else (if is_enabled latch && is_data_port a then config_data (selected latch) (selected_offset latch a)
    else ordinary)

abbrev pub target_reply : State → ℕ → ℕ → PortTarget → ℕ
target_reply s a w config_address = s.latch
target_reply s a w (config_data at off) = config_reply s.functions at off (all_bytes w)
target_reply s a w ordinary = claim_reply s.functions w (first_claim s.functions io a)

abbrev pub after_target_write : State → ℕ → ℕ → ℕ → PortTarget → State
after_target_write s a w v config_address = record s { latch = latched v }
after_target_write s a w v (config_data at off) =
    record s { functions = after_config_write s.functions at off (all_bytes w) v }
after_target_write s a w v ordinary =
    record s { functions = after_claim_write s.functions w v (first_claim s.functions io a) }

-- the value that w bytes at port a read, and the board after the low w bytes of v are written there
abbrev pub port_reply : State → ℕ → ℕ → ℕ
port_reply s a w = target_reply s a w (port_target s.latch a w)

abbrev pub after_port_write : State → ℕ → ℕ → ℕ → State
after_port_write s a w v = after_target_write s a w v (port_target s.latch a w)

-- ---- memory

abbrev pub memory_reply : State → ℕ → ℕ → ℕ
memory_reply s a w = claim_reply s.functions w (first_claim s.functions memory a)

abbrev pub after_memory_write : State → ℕ → ℕ → ℕ → State
after_memory_write s a w v =
    record s { functions = after_claim_write s.functions w v (first_claim s.functions memory a) }
