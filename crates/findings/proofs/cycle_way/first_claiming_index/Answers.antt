use Rattle.std.proofs.Common.{arith}
use Rattle.findings.proofs.StoppedFrom.{find_step}
use Rattle.findings.proofs.cycle_way.first_claiming_index.Goals as goal

pub returns-then-nth_is_on_bus_and_claims : goal.returns-then-nth_is_on_bus_and_claims
returns-then-nth_is_on_bus_and_claims c = grind (arith, find_step)

pub loop-index-preserved : goal.loop-index-preserved
loop-index-preserved c = grind (arith, find_step)
