use Rattle.paths.specs.BusAddresses.{bus_address_of}
use Rattle.bus_scan.proofs.SizedBars.{BarsBelow}
use Rattle.bus_scan.proofs.sizing.size_bars.Given as goal

abbrev pub invariant-loop-reg : goal.invariant-loop-reg
invariant-loop-reg l = BarsBelow l.fn.host l.host (bus_address_of l.at) l.bars l.reg
