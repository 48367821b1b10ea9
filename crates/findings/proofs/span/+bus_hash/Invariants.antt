use Rattle.std.proofs.Common.{length}
use Rattle.findings.proofs.span.+bus_hash.Given as goal

abbrev pub decreases-bus_hash : goal.decreases-bus_hash
decreases-bus_hash l = length l.bus.now
