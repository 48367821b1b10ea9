use Rattle.std.proofs.Common.{arith}
use Rattle.images.proofs.Puts.{next}
use Rattle.images.proofs.writing.put_block_and_advance.Goals as goal

pub returns-clause-bytes : goal.returns-clause-bytes
returns-clause-bytes c = grind (arith, next)
