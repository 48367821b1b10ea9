use Rattle.paths.specs.BusAddresses.{bus_address_of}
use Rattle.bus_scan.proofs.ScanSteps.{bridge_closed}
use Rattle.bus_scan.proofs.enumeration.Enumeration.set_final_subordinate.Goals as goal

pub returns-clause-closed : goal.returns-clause-closed
returns-clause-closed c = λ b bus n r is number index here.
    bridge_closed b bus c.args.bus n r is.on_bus is.stands is.is_bridge_there c.args.number number c.args.host.now.state c.args.self.now.rows.items c.args.self.now.last here (bus_address_of c.args.at) is.address
    c.write_bus_numbers.new.host.state c.write_bus_numbers.ensures.written c.args.index index c.index_mut-row.result.now c.set_subordinate_if_bridge.new.self c.index_mut-row.ensures.value c.set_subordinate_if_bridge.ensures
