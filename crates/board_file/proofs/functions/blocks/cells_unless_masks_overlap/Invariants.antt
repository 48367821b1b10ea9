use Rattle.std.{proofs.Common.{◌≡◌, ◌++◌, ◌-◌, map}, specs.List.{list_all, range_with_len}}
use Rattle.board_file.specs.Blocks.{is_apart, are_apart, cell, cells}
use Rattle.board_file.proofs.functions.blocks.cells_unless_masks_overlap.Given as goal

abbrev pub invariant-loop-i : goal.invariant-loop-i
invariant-loop-i l =
    (list_all (is_apart l.rw l.w1c) (range_with_len l.i (l.len - l.i)) ≡ are_apart l.len l.rw l.w1c)
    × (l.cells.items ++ map (cell l.reset l.rw l.w1c) (range_with_len l.i (l.len - l.i)) ≡ cells l.len l.reset l.rw l.w1c)
