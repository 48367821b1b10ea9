use Rattle.std.proofs.Common.{refl, sym}
use Rattle.model_registers.specs.DeviceBytes.{set_value}
use Rattle.headers.specs.Places.{place_of}
use Rattle.host_bridge.proofs.{Lent.distinct_paths, ByIndex.changed_nth}
use Rattle.host_bridge.proofs.host.Host.set_device_byte_nth.Goals as goal

pub returns : goal.returns
returns c =
    let root = c.self.inside.root in
    let changed = changed_nth root c.args.index c.in-Some.endpoint.now (sym c.in-Some.ensures.value) (distinct_paths root c.endpoint_nth.ensures.in_order) (set_value c.args.value (place_of c.args.place c.args.off)) in
    rw (← c.self.view_is, c.set.ensures, changed) refl
