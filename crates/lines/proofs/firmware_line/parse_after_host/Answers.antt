use Rattle.std.proofs.Common.{arith}
use Rattle.lines.proofs.{WriteCounts.firmware_of_seven, RequestCounts.request_of_seven}
use Rattle.lines.proofs.firmware_line.parse_after_host.Goals as goal

pub returns-clause-means : goal.returns-clause-means
returns-clause-means c = grind (arith, firmware_of_seven)

pub returns-clause-asks : goal.returns-clause-asks
returns-clause-asks c = grind (arith, request_of_seven)
