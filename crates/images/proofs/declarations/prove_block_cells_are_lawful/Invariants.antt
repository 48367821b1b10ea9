use Rattle.std.proofs.Common.{length}
use Rattle.lists.specs.Elements.{Each}
use Rattle.model_registers.specs.{Cell.IsCell, Declarations.ConfigBlock}
use Rattle.images.proofs.declarations.prove_block_cells_are_lawful.Given as goal

abbrev pub invariant-loop-block : goal.invariant-loop-block
invariant-loop-block l = Each (λ (b : ConfigBlock). Each IsCell b.cells) l.left → Each (λ (b : ConfigBlock). Each IsCell b.cells) l.blocks

abbrev pub decreases-loop-block : goal.decreases-loop-block
decreases-loop-block l = length l.left
