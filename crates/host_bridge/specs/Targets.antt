-- The target of a port access, from the program's type.
use Rattle.std.specs.Prelude.{ℕ, ◌+◌, ◌-◌}
use Rattle.model_board.specs.Ports.{PortTarget, config_address, config_data, ordinary, selected, selected_register}
use Rattle.host_bridge.specs.declared.latch.Target.{Target}
use Rattle.host_bridge.specs.declared.latch.Target.TheVariants as target

abbrev pub named_target : ℕ → ℕ → Target → PortTarget
named_target latch a target.ConfigAddress = config_address
named_target latch a target.ConfigData = config_data (selected latch) (selected_register latch + (a - 0xcfc))
named_target latch a target.Ordinary = ordinary
