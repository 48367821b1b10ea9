use Rattle.std.proofs.Common.{arith}
use Rattle.model_registers.specs.{Registers.config, EndpointTable.block_cells}
use Rattle.model_images.proofs.BlockCounts.{many_cells}
use Rattle.images.proofs.Lengths.{first_cells}
use Rattle.images.proofs.sizes.count_block_cells.Goals as goal

pub loop-block-preserved : goal.loop-block-preserved
loop-block-preserved c =
    let first = first_cells block_cells c.in-Some.block.now c.loop-block.left.now c.in-Some.rest.now (grind arith) in
    let own = many_cells (config c.in-Some.block.now.offset) c.in-Some.block.now.cells in
    grind arith
