-- Laws of accesses of 1, 2 or 4 bytes at a multiple of their width: PCI Local Bus 3.0, chapters 3.2.2 and 3.2.2.3.2.
--     ConfigReadByLanes, ConfigWriteByLanes      such an access to a function accesses the enabled bytes of one word
--     ClaimsKeepLanes      a region receives an access in the byte lanes of its address
--     PortsWhileNotEnabled      without the enable bit, every port except CONFIG_ADDRESS is an ordinary port
use Rattle.std.specs.Prelude.{List, ◌≡◌, ℕ, ◌*◌, ◌/◌, ◌%◌, ◌^◌, false, ◌&&◌, ◌==◌, if◌then◌else◌, Some}
use Rattle.model_registers.specs.{Registers.all_bytes, ByteEnables.{IsWidth, lanes, enables_of, to_lanes}, Decoding.Space}
use Rattle.model_board.specs.{State.BoardFunction, Claims.{Claim, first_claim}, Cycles.BusAddress, Ports.{config_reply, after_config_write, is_enabled, config_address, ordinary, port_target}}

abbrev pub ConfigReadByLanes : Type 0
ConfigReadByLanes = (fs : List BoardFunction) (at : BusAddress) (off w : ℕ) → IsWidth w → off % w ≡ 0
    → config_reply fs at off (all_bytes w)
    ≡ config_reply fs at (off / 4 * 4) (lanes (enables_of off w)) / 256 ^ (off % 4)

abbrev pub ConfigWriteByLanes : Type 0
ConfigWriteByLanes = (fs : List BoardFunction) (at : BusAddress) (off w v : ℕ) → IsWidth w → off % w ≡ 0
    → after_config_write fs at off (all_bytes w) v
    ≡ after_config_write fs at (off / 4 * 4) (lanes (enables_of off w)) (to_lanes off v)

abbrev pub ClaimsKeepLanes : Type 0
ClaimsKeepLanes = (fs : List BoardFunction) (space : Space) (a : ℕ) (c : Claim) → first_claim fs space a ≡ Some c
    → c.offset % 4 ≡ a % 4

abbrev pub PortsWhileNotEnabled : Type 0
PortsWhileNotEnabled = (latch a w : ℕ) → is_enabled latch ≡ false
    → port_target latch a w ≡ (if a == 0xcf8 && w == 4 then config_address else ordinary)
