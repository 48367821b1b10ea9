-- The host's reads of the board itself, routed and claimed by the board: PCI Local Bus 3.0, chapter 3.2.2.3.2
-- (CONFIG_ADDRESS).
--     host_fault      the checks of a host read
--     shown      the value at a BDF, a port or a memory address
--     host_answer      the reply: a refusal, or the value
use Rattle.std.specs.{Prelude.{ℕ, Bool, false, ◌^◌, nat_le, Option}, Option.option_map_or}
use Rattle.model_registers.specs.Registers.{all_bytes}
use Rattle.model_board.specs.{State.State, Ports.{config_reply, port_reply, memory_reply}}
use Rattle.model_guests.specs.{Accesses.{Reply, answered, refused}, Slots.access_fault, Grammar.{HostTarget, host_configuration, host_port, host_address, HostRead}}

abbrev pub host_number : HostTarget → ℕ
host_number (host_configuration at off) = off
host_number (host_port a) = a
host_number (host_address a) = a

abbrev pub is_out_of_host_range : HostTarget → Bool
is_out_of_host_range (host_configuration at off) = nat_le 256 off
is_out_of_host_range (host_port a) = nat_le (2 ^ 32) a
is_out_of_host_range (host_address a) = false

-- 4 bytes at port CF8h read CONFIG_ADDRESS; because it is 0 between events, CFCh to CFFh are ordinary ports
abbrev pub shown : State → ℕ → HostTarget → ℕ
shown s w (host_configuration at off) = config_reply s.functions at off (all_bytes w)
shown s w (host_port a) = port_reply s a w
shown s w (host_address a) = memory_reply s a w

abbrev pub host_fault : HostRead → Option ℕ
host_fault r = access_fault r.width (host_number r.target) (is_out_of_host_range r.target)

abbrev pub host_answer : State → HostRead → Reply
host_answer s r = option_map_or refused (host_fault r) (answered (shown s r.width r.target) r.width)
