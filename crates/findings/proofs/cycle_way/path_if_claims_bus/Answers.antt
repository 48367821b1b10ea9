use Rattle.std.proofs.Common.{arith}
use Rattle.findings.proofs.BridgesOnWay.{taking_at}
use Rattle.findings.proofs.cycle_way.path_if_claims_bus.Goals as goal

pub returns-then-not-nth_is_on_bus_and_claims : goal.returns-then-not-nth_is_on_bus_and_claims
returns-then-not-nth_is_on_bus_and_claims c = grind (arith, taking_at)

pub returns : goal.returns
returns c = grind (arith, taking_at)
