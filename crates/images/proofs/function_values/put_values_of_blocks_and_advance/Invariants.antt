use Rattle.std.{proofs.Common.{◌≡◌, ◌≤◌, ◌+◌, length}, specs.Prelude.flat_map}
use Rattle.lists.specs.Elements.{Each}
use Rattle.model_registers.specs.DeclarationRules.{IsConfigBlock}
use Rattle.images.specs.{Puts.put, Shown.block_values}
use Rattle.images.proofs.function_values.put_values_of_blocks_and_advance.Given as goal

-- what is left finishes what is asked
abbrev pub invariant-loop-block : goal.invariant-loop-block
invariant-loop-block l = record {
  lawful : Each IsConfigBlock l.left;
  room : l.next + length (flat_map (block_values l.endpoint l.own) l.left) ≤ length l.out;
  end : l.next + length (flat_map (block_values l.endpoint l.own) l.left) ≡ l.at + length (flat_map (block_values l.endpoint l.own) l.blocks);
  bytes : put l.next (flat_map (block_values l.endpoint l.own) l.left) l.out ≡ put l.at (flat_map (block_values l.endpoint l.own) l.blocks) l.fn.out;
}

abbrev pub decreases-loop-block : goal.decreases-loop-block
decreases-loop-block l = length l.left
