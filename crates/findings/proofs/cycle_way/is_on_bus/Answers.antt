use Rattle.std.proofs.Common.{arith}
use Rattle.model_board.proofs.PathEnds.{path_eq-sym}
use Rattle.findings.proofs.BridgesOnWay.{path_eq-none}
use Rattle.findings.proofs.cycle_way.is_on_bus.Goals as goal

pub returns-in-Some : goal.returns-in-Some
returns-in-Some c = grind (arith, path_eq-sym)

pub returns-in-None : goal.returns-in-None
returns-in-None c = grind (arith, path_eq-none)
