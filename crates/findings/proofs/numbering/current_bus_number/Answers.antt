use Rattle.std.proofs.Common.{arith}
use Rattle.findings.proofs.Numbers.{bus_of_index, bus_of_none}
use Rattle.findings.proofs.numbering.current_bus_number.Goals as goal

pub returns-in-Some : goal.returns-in-Some
returns-in-Some c = grind (arith, bus_of_index)

pub returns-in-None : goal.returns-in-None
returns-in-None c = grind (arith, bus_of_none)
