use Rattle.std.{proofs.Common.{◌≡◌, length}, specs.Prelude.flat_map}
use Rattle.model_images.specs.LoadedBytes.{after_bytes}
use Rattle.images.specs.Parts.{cell_bytes}
use Rattle.images.proofs.comparing.strip_cells.Given as goal

-- what is left decides as all does
abbrev pub invariant-loop-cell : goal.invariant-loop-cell
invariant-loop-cell l = after_bytes 906 (flat_map cell_bytes l.left) l.bytes ≡ after_bytes 906 (flat_map cell_bytes l.cells) l.fn.bytes

abbrev pub decreases-loop-cell : goal.decreases-loop-cell
decreases-loop-cell l = length l.left
