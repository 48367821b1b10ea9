-- What is pushed is the first of the cells that are left.
use Rattle.std.proofs.Common.{arith}
use Rattle.headers.proofs.Files.{pushed_cell}
use Rattle.headers.proofs.table.push_block.Goals as goal

pub loop-cell-preserved : goal.loop-cell-preserved
loop-cell-preserved c = grind (arith, pushed_cell)
