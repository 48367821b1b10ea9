use Rattle.std.proofs.Common.{arith}
use Rattle.bridge_forward.proofs.EndpointReset.{found_each}
use Rattle.bridge_forward.proofs.blocks.cells_of_block_at.Goals as goal

pub cells_of_block-requires : goal.cells_of_block-requires
cells_of_block-requires c = grind (arith, found_each)
