use Rattle.std.proofs.Common.{◌∙◌, arith}
use Rattle.lists.proofs.Indices.{read_at}
use Rattle.bridge_forward.proofs.BlocksReset.{first_next, first_all}
use Rattle.bridge_forward.proofs.blocks.reset_all.Goals as goal

pub loop-block-preserved : goal.loop-block-preserved
loop-block-preserved c = grind (arith, read_at, first_next)

pub returns : goal.returns
returns c = c.loop-block.invariant ∙ first_all c.loop-block.block-index c.args.blocks.now c.loop-block-test.false
