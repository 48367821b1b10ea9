use Rattle.std.proofs.Common.{arith}
use Rattle.paths.proofs.Paths.{last_part-is}
use Rattle.paths.proofs.path.Path.last.Goals as goal

pub returns : goal.returns
returns c = grind (arith, last_part-is)
