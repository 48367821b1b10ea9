use Rattle.std.{proofs.Common.{◌≡◌, ◌++◌, length}, specs.Prelude.flat_map}
use Rattle.lists.specs.Elements.{Each}
use Rattle.config_bytes.specs.CellFile.{file_of}
use Rattle.headers.specs.Rows.{IsRow, row_cells}
use Rattle.headers.proofs.table.push_rows.Given as goal

abbrev pub invariant-loop-row : goal.invariant-loop-row
invariant-loop-row l = record {
  rows : Each IsRow l.left;
  cells : file_of l.cells.items ++ flat_map row_cells l.left ≡ file_of l.fn.cells.items ++ flat_map row_cells l.rows;
}

abbrev pub decreases-loop-row : goal.decreases-loop-row
decreases-loop-row l = length l.left
