use Rattle.std.{proofs.Common.{◌≡◌, ◌++◌, length}, specs.Prelude.flat_map}
use Rattle.lists.specs.Elements.{Each}
use Rattle.model_registers.specs.{DeclarationRules.IsConfigBlock, EndpointTable.block_cells}
use Rattle.config_bytes.specs.CellFile.{file_of}
use Rattle.headers.proofs.endpoint.push_blocks.Given as goal

abbrev pub invariant-loop-first : goal.invariant-loop-first
invariant-loop-first l =
    Each IsConfigBlock l.left × (file_of l.cells.items ++ flat_map block_cells l.left ≡ file_of l.fn.cells.items ++ flat_map block_cells l.blocks)

abbrev pub decreases-loop-first : goal.decreases-loop-first
decreases-loop-first l = length l.left
