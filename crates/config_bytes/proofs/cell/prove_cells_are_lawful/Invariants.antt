use Rattle.std.proofs.Common.{length}
use Rattle.lists.specs.Elements.{Each}
use Rattle.model_registers.specs.Cell.{IsCell}
use Rattle.config_bytes.proofs.cell.prove_cells_are_lawful.Given as goal

abbrev pub invariant-loop-cell : goal.invariant-loop-cell
invariant-loop-cell l = Each IsCell l.left → Each IsCell l.cells

abbrev pub decreases-loop-cell : goal.decreases-loop-cell
decreases-loop-cell l = length l.left
