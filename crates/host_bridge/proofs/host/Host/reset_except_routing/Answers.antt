use Rattle.std.proofs.Common.{arith}
use Rattle.host_bridge.proofs.ByPath.{reset_same}
use Rattle.host_bridge.proofs.host.Host.reset_except_routing.Goals as goal

pub returns-in-Some : goal.returns-in-Some
returns-in-Some c = grind (arith, reset_same)
