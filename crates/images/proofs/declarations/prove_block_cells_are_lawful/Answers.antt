use Rattle.std.proofs.Common.{arith}
use Rattle.lists.specs.Elements.{Each}
use Rattle.model_registers.specs.{Cell.IsCell, Declarations.ConfigBlock}
use Rattle.images.proofs.IndexedDeclarations.{each_of}
use Rattle.images.proofs.declarations.prove_block_cells_are_lawful.Goals as goal

pub loop-block-preserved : goal.loop-block-preserved
loop-block-preserved c = each_of (λ (b : ConfigBlock). Each IsCell b.cells) c.in-Some.block.now c.loop-block.left.now c.in-Some.rest.now c.args.blocks.now (grind arith) (grind arith) c.loop-block.invariant
