-- The accesses of firmware through the host bridge, and their effect on a board in any register state: PCI Local Bus 3.0,
-- chapter 3.2.2.3.2 (CONFIG_ADDRESS and CONFIG_DATA).
--     HostAccess      a read or a write, with a width, at a BDF, a port or a memory address
--     fault_of      the checks of an access
--     perform, effect      the reply to an access that passes the checks, and the board after it
--     answer, after_access      the reply to any access, and the board after it
use Rattle.std.specs.{Prelude.{ℕ, if◌then◌else◌, Option, is_some}, Option.option_map_or}
use Rattle.model_registers.specs.Registers.{all_bytes}
use Rattle.model_board.specs.{State.State, Ports.{after_config_write, after_port_write, after_memory_write}}
use Rattle.model_guests.specs.{Accesses.{Op, reads, writes, Reply, answered, done, refused}, Grammar.{HostTarget, host_configuration, host_port, host_address}, Slots.access_fault, HostReads.{host_number, is_out_of_host_range, shown}}

pub record HostAccess : Type 0 where
  pub target : HostTarget
  pub width : ℕ
  pub op : Op

abbrev pub fault_of : HostAccess → Option ℕ
fault_of a = access_fault a.width (host_number a.target) (is_out_of_host_range a.target)

abbrev pub perform : State → ℕ → HostTarget → Op → Reply
perform s w at reads = answered (shown s w at) w
perform s w at (writes v) = done

-- CONFIG_ADDRESS is 0 after an access by BDF
abbrev pub effect : State → ℕ → HostTarget → Op → State
effect s w (host_configuration at off) reads = record s { latch = 0 }
effect s w (host_configuration at off) (writes v) = record {
  functions = after_config_write s.functions at off (all_bytes w) v;
  latch = 0;
}
effect s w (host_port a) reads = s
effect s w (host_port a) (writes v) = after_port_write s a w v
effect s w (host_address a) reads = s
effect s w (host_address a) (writes v) = after_memory_write s a w v

-- a refusal, or the result; the checks come first
abbrev pub answer : State → HostAccess → Reply
answer s a = option_map_or refused (fault_of a) (perform s a.width a.target a.op)

-- a refused access changes nothing
abbrev pub after_access : State → HostAccess → State
after_access s a = if is_some (fault_of a) then s else effect s a.width a.target a.op
