use Rattle.std.proofs.Common.{◌≡◌, ◌++◌, drop}
use Rattle.paths.specs.BusAddresses.{bus_address_of}
use Rattle.findings.specs.WhyOnWay.{unreached_at_bdf}
use Rattle.findings.proofs.number_why.unreached_at_bdf.Given as goal

abbrev pub invariant-loop-row : goal.invariant-loop-row
invariant-loop-row l =
    l.told.items ++ unreached_at_bdf l.host.state.functions (bus_address_of l.at) l.reached (drop l.row-index l.row-items)
    ≡ unreached_at_bdf l.host.state.functions (bus_address_of l.at) l.reached l.row-items
