use Rattle.std.proofs.Common.{◌≡◌, ◌++◌}
use Rattle.config_bytes.specs.CellFile.{file_of}
use Rattle.headers.specs.Rows.{IsRow, row_cells}
use Rattle.headers.proofs.table.push_row.Given as goal

abbrev pub invariant-loop-left : goal.invariant-loop-left
invariant-loop-left l = record {
  row : IsRow l.left;
  cells : file_of l.cells.items ++ row_cells l.left ≡ file_of l.fn.cells.items ++ row_cells l.fn.row;
}

abbrev pub decreases-loop-left : goal.decreases-loop-left
decreases-loop-left l = l.left.width
