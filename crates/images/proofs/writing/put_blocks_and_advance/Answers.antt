use Rattle.std.proofs.Common.{◌∙◌, refl, arith}
use Rattle.images.{specs.Parts.block_bytes, proofs.Puts.next_of}
use Rattle.images.proofs.writing.put_blocks_and_advance.Goals as goal

pub loop-block-preserved : goal.loop-block-preserved
loop-block-preserved c =
    let s = next_of block_bytes c.in-Some.block.now c.loop-block.left.now c.in-Some.rest.now c.loop-block.next c.put_block_and_advance-next.result (block_bytes c.in-Some.block.now) c.loop-block.out c.put_block_and_advance-next.new.out (grind arith)
    refl c.put_block_and_advance-next.ensures.bytes c.put_block_and_advance-next.ensures.end c.loop-block.invariant.room in
    record { lawful = grind arith; room = s.room; end = s.end ∙ c.loop-block.invariant.end; bytes = s.bytes ∙ c.loop-block.invariant.bytes }
