-- What is pushed is the lowest byte of what is left of the register.
use Rattle.std.proofs.Common.{arith}
use Rattle.headers.proofs.Files.{pushed_byte}
use Rattle.headers.proofs.table.push_row.Goals as goal

pub loop-left-preserved : goal.loop-left-preserved
loop-left-preserved c = grind (arith, pushed_byte)
