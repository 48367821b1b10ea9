use Rattle.host_bridge.proofs.ConfigCycles.{read_changes_nothing}
use Rattle.host_bridge.proofs.host.Host.read_config_data.Goals as goal

pub returns-clause-after : goal.returns-clause-after
returns-clause-after c = rw (c.cycle.ensures.after, read_changes_nothing c.self.inside.root c.cycle_of.result c.cycle_of.ensures.op) c.self.view_is
