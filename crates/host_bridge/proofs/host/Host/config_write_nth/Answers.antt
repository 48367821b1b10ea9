use Rattle.std.proofs.Common.{refl, sym}
use Rattle.model_registers.specs.{Registers.{config, write}, ByteEnables.lanes}
use Rattle.host_bridge.proofs.{Lent.distinct_paths, ByIndex.changed_nth}
use Rattle.host_bridge.proofs.host.Host.config_write_nth.Goals as goal

pub returns : goal.returns
returns c =
    let root = c.self.inside.root in
    let changed = changed_nth root c.args.index c.in-Some.endpoint.now (sym c.in-Some.ensures.value) (distinct_paths root c.endpoint_nth.ensures.in_order) (write (lanes c.args.enables) c.args.data (config c.args.off)) in
    rw (← c.self.view_is, c.config_write.ensures, changed) refl
