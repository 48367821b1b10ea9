use Rattle.std.proofs.Common.{arith}
use Rattle.bridge_forward.proofs.Known.{known_with}
use Rattle.bridge_forward.proofs.routes.Routes.set_cached_bridge.Goals as goal

pub returns : goal.returns
returns c = grind (arith, known_with)
