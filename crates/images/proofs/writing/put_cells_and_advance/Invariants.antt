use Rattle.std.{proofs.Common.{◌≡◌, ◌≤◌, ◌+◌, length}, specs.Prelude.flat_map}
use Rattle.images.specs.{Parts.cell_bytes, Puts.put}
use Rattle.images.proofs.writing.put_cells_and_advance.Given as goal

-- what is left finishes what is asked
abbrev pub invariant-loop-cell : goal.invariant-loop-cell
invariant-loop-cell l = record {
  room : l.next + length (flat_map cell_bytes l.left) ≤ length l.out;
  end : l.next + length (flat_map cell_bytes l.left) ≡ l.at + length (flat_map cell_bytes l.cells);
  bytes : put l.next (flat_map cell_bytes l.left) l.out ≡ put l.at (flat_map cell_bytes l.cells) l.fn.out;
}

abbrev pub decreases-loop-cell : goal.decreases-loop-cell
decreases-loop-cell l = length l.left
