use Rattle.std.proofs.Common.{arith}
use Rattle.model_board.specs.Paths.{last_part}
use Rattle.paths.proofs.Paths.{zero_copied, last_part-is}
use Rattle.paths.proofs.path.Path.function_zero.Goals as goal

pub returns : goal.returns
returns c = grind (arith, last_part-is, zero_copied)
