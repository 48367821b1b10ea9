use Rattle.std.proofs.Common.{arith}
use Rattle.model_registers.proofs.Owned.{own_hits}
use Rattle.guest_functions.proofs.virtual_function.VirtualFunction.decode.Goals as goal

pub returns : goal.returns
returns c = grind (arith, own_hits)
