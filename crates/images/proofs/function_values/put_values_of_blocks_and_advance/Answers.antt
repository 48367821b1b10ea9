use Rattle.std.proofs.Common.{◌∙◌, refl, arith}
use Rattle.images.{proofs.Puts.next_of, specs.Shown.block_values}
use Rattle.images.proofs.function_values.put_values_of_blocks_and_advance.Goals as goal

pub loop-block-preserved : goal.loop-block-preserved
loop-block-preserved c =
    let f = block_values c.args.endpoint.now c.args.own.now in
    let s = next_of f c.in-Some.block.now c.loop-block.left.now c.in-Some.rest.now c.loop-block.next c.put_values_of_block_and_advance-next.result (f c.in-Some.block.now) c.loop-block.out c.put_values_of_block_and_advance-next.new.out (grind arith)
    refl c.put_values_of_block_and_advance-next.ensures.bytes c.put_values_of_block_and_advance-next.ensures.end c.loop-block.invariant.room in
    record { lawful = grind arith; room = s.room; end = s.end ∙ c.loop-block.invariant.end; bytes = s.bytes ∙ c.loop-block.invariant.bytes }
