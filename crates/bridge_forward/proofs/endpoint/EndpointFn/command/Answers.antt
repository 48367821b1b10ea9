use Rattle.std.proofs.Common.{arith}
use Rattle.bridge_forward.proofs.EndpointHits.{command_now}
use Rattle.bridge_forward.proofs.endpoint.EndpointFn.command.Goals as goal

pub returns : goal.returns
returns c = grind (arith, command_now)
