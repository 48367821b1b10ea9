use Rattle.std.proofs.Common.{◌≡◌, ◌+◌, ◌++◌, length}
use Rattle.model_registers.specs.Registers.{config, cells_from}
use Rattle.config_bytes.specs.CellFile.{file_of}
use Rattle.headers.proofs.table.push_block.Given as goal

abbrev pub invariant-loop-cell : goal.invariant-loop-cell
invariant-loop-cell l =
    (l.at + length l.left ≡ l.off + length l.block)
    × (file_of l.cells.items ++ cells_from (config l.at) l.left ≡ file_of l.fn.cells.items ++ cells_from (config l.off) l.block)

abbrev pub decreases-loop-cell : goal.decreases-loop-cell
decreases-loop-cell l = length l.left
