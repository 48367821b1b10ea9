use Rattle.bus_scan.proofs.TableSteps.{RowsBelow}
use Rattle.bus_scan.proofs.sizing.size_all.Given as goal

abbrev pub invariant-loop-row : goal.invariant-loop-row
invariant-loop-row l = RowsBelow l.fn.host l.host l.row-items l.row-index
