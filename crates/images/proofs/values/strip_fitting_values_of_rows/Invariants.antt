use Rattle.std.{proofs.Common.{◌≡◌, length}, specs.Prelude.flat_map}
use Rattle.lists.specs.Elements.{Each}
use Rattle.headers.specs.Rows.{IsRow, row_cells}
use Rattle.model_images.specs.LoadedBytes.{after_values}
use Rattle.images.proofs.values.strip_fitting_values_of_rows.Given as goal

-- what is left decides as all does
abbrev pub invariant-loop-row : goal.invariant-loop-row
invariant-loop-row l = record {
  lawful : Each IsRow l.left;
  same : after_values (flat_map row_cells l.left) l.bytes ≡ after_values (flat_map row_cells l.rows) l.fn.bytes;
}

abbrev pub decreases-loop-row : goal.decreases-loop-row
decreases-loop-row l = length l.left
