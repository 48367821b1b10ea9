use Rattle.std.proofs.Common.{arith}
use Rattle.lines.proofs.Counts.{host_of_seven}
use Rattle.lines.proofs.line.parse_after_host.Goals as goal

pub returns-clause-meaning : goal.returns-clause-meaning
returns-clause-meaning c = grind (arith, host_of_seven)
