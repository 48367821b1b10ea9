use Rattle.std.proofs.Common.{◌≡◌}
use Rattle.model_images.specs.LoadedBytes.{after_values}
use Rattle.headers.specs.Rows.{IsRow, row_cells}
use Rattle.images.proofs.values.strip_fitting_values_of_row.Given as goal

-- what is left decides as all does
abbrev pub invariant-loop-left : goal.invariant-loop-left
invariant-loop-left l = record {
  row : IsRow l.left;
  same : after_values (row_cells l.left) l.tail ≡ after_values (row_cells l.fn.row) l.fn.bytes;
}

abbrev pub decreases-loop-left : goal.decreases-loop-left
decreases-loop-left l = l.left.width
