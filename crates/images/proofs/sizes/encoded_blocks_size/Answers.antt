use Rattle.std.proofs.Common.{arith}
use Rattle.images.{specs.Parts.block_bytes, proofs.Lengths.{first_length, block_length}}
use Rattle.images.proofs.sizes.encoded_blocks_size.Goals as goal

pub loop-block-preserved : goal.loop-block-preserved
loop-block-preserved c =
    let first = first_length block_bytes c.in-Some.block.now c.loop-block.left.now c.in-Some.rest.now (grind arith) in
    let own = block_length c.in-Some.block.now in
    grind arith
