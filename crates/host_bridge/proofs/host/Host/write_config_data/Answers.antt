use Rattle.std.proofs.Common.{refl}
use Rattle.host_bridge.proofs.ConfigCycles.{write_changes}
use Rattle.host_bridge.proofs.host.Host.write_config_data.Goals as goal

pub returns : goal.returns
returns c =
    let cycle = c.cycle_of.result in
    let root = c.self.inside.root in
    rw (← c.self.view_is, c.cycle.ensures.after, write_changes root cycle _ _ _ _ (c.cycle_of.ensures.reached root) c.cycle_of.ensures.offset c.cycle_of.ensures.enables c.cycle_of.ensures.op) refl
