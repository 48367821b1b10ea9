-- A word read by the enables of a number holds that number from its lane on.
use Rattle.std.proofs.Common.{arith}
use Rattle.model_registers.proofs.ByteAccesses.{number_by_lanes}
use Rattle.bridge_forward.proofs.function.Function.config_value.Goals as goal

pub returns : goal.returns
returns c = grind (arith, number_by_lanes)
