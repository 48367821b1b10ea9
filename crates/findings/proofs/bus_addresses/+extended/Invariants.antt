use Rattle.std.proofs.Common.{length}
use Rattle.findings.proofs.bus_addresses.+extended.Given as goal

abbrev pub decreases-extended : goal.decreases-extended
decreases-extended l = length l.parts.now
