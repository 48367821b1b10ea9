use Rattle.std.{proofs.Common.{◌≡◌, ◌+◌, ◌≤◌, length}, specs.Prelude.flat_map}
use Rattle.lists.specs.Elements.{Each}
use Rattle.model_registers.specs.DeclarationRules.{IsConfigBlock}
use Rattle.images.specs.Parts.{block_bytes}
use Rattle.images.proofs.sizes.encoded_blocks_size.Given as goal

abbrev pub invariant-loop-block : goal.invariant-loop-block
invariant-loop-block l = record {
  lawful : Each IsConfigBlock l.left;
  all : l.size + length (flat_map block_bytes l.left) ≡ length (flat_map block_bytes l.blocks);
  bound : l.size ≤ 965;
}

abbrev pub decreases-loop-block : goal.decreases-loop-block
decreases-loop-block l = length l.left
