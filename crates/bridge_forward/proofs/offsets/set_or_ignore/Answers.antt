use Rattle.std.proofs.Common.{arith}
use Rattle.bridge_forward.proofs.EndpointAccess.{change_past}
use Rattle.bridge_forward.proofs.offsets.set_or_ignore.Goals as goal

pub returns-in_default : goal.returns-in_default
returns-in_default c = grind (arith, change_past)
