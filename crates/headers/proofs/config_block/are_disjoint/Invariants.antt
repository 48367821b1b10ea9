use Rattle.std.proofs.Common.{◌≡◌, length}
use Rattle.lists.specs.Elements.{all_pairs}
use Rattle.model_registers.specs.DeclarationRules.{blocks_apart}
use Rattle.headers.proofs.config_block.are_disjoint.Given as goal

abbrev pub invariant-loop-first : goal.invariant-loop-first
invariant-loop-first l = all_pairs blocks_apart l.blocks ≡ all_pairs blocks_apart l.left

abbrev pub decreases-loop-first : goal.decreases-loop-first
decreases-loop-first l = length l.left
