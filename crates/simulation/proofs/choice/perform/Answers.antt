use Rattle.std.proofs.Common.{arith}
use Rattle.simulation.proofs.Told.{checks}
use Rattle.simulation.proofs.choice.perform.Goals as goal

pub returns-in-Check-clause-does : goal.returns-in-Check-clause-does
returns-in-Check-clause-does g c = grind (arith, checks)
