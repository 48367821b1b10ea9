use Rattle.std.proofs.Common.{arith}
use Rattle.host_bridge.proofs.ByPath.{change_same}
use Rattle.host_bridge.proofs.host.Host.raise.Goals as goal

pub returns : goal.returns
returns c = grind (arith, change_same)
