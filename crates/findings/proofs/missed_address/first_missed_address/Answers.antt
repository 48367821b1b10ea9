use Rattle.std.proofs.Common.{arith}
use Rattle.findings.proofs.Least.{least_lost}
use Rattle.findings.proofs.missed_address.first_missed_address.Goals as goal

pub returns : goal.returns
returns c = grind (arith, least_lost)
