use Rattle.std.proofs.Common.{inr, refl}
use Rattle.model_set_up.specs.{Scanning.scan_numbers, ScanOrder.on}
use Rattle.paths.specs.BusAddresses.{bus_address_of}
use Rattle.bus_scan.proofs.{ScanSteps.{too_many, bridge_opened}, ScanSights.bridge_found}
use Rattle.bus_scan.proofs.enumeration.Enumeration.push_and_number_bridge.Goals as goal

pub returns-then-self-clause-opened : goal.returns-then-self-clause-opened
returns-then-self-clause-opened c = λ b bus n r is path shows here.
    let found = bridge_found is path shows in
    record {
      cause = inr (refl, too_many b found.on_bus.board (on bus n) r found.stands is.is_bridge_there c.args.host.now.state c.args.self.now.rows.items c.args.self.now.last c.if-self.true here);
      registers = (scan_numbers b (on bus n), here.state);
    }

pub returns-clause-opened : goal.returns-clause-opened
returns-clause-opened c = λ b bus n r is path shows here.
    let found = bridge_found is path shows in
    bridge_opened b bus c.args.bus n r c.args.seen found is.is_bridge_there c.args.path path c.args.host.now.state c.args.self.now.rows.items c.args.self.now.last here c.if-self.false
    (bus_address_of c.args.at) is.address c.write_bus_numbers.new.host.state c.write_bus_numbers.ensures.written c.push_function.new.self.rows.items c.in_ok-push_function.ensures.rows
