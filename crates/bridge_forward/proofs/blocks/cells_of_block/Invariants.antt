use Rattle.std.proofs.Common.{◌≡◌, take}
use Rattle.config_bytes.specs.CellFile.{offsets_from}
use Rattle.bridge_forward.proofs.blocks.cells_of_block.Given as goal

abbrev pub invariant-loop-off : goal.invariant-loop-off
invariant-loop-off l = l.cells.items ≡ offsets_from 0 (take l.off l.block)
