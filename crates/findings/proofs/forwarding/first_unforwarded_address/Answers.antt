use Rattle.std.proofs.Common.{arith}
use Rattle.findings.proofs.Least.{missed_unforwarded}
use Rattle.findings.proofs.forwarding.first_unforwarded_address.Goals as goal

pub returns : goal.returns
returns c = grind (arith, missed_unforwarded)
