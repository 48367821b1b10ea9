use Rattle.std.proofs.Common.{arith}
use Rattle.config_bytes.proofs.cell.prove_cells_are_lawful.Goals as goal

pub loop-cell-preserved : goal.loop-cell-preserved
loop-cell-preserved c = grind arith
