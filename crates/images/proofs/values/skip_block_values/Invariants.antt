use Rattle.std.{proofs.Common.{◌≡◌, length}, specs.Prelude.flat_map}
use Rattle.lists.specs.Elements.{Each}
use Rattle.model_registers.specs.{EndpointTable.block_cells, DeclarationRules.IsConfigBlock}
use Rattle.model_images.specs.LoadedBytes.{after_values}
use Rattle.images.proofs.values.skip_block_values.Given as goal

-- what is left decides as all does
abbrev pub invariant-loop-block : goal.invariant-loop-block
invariant-loop-block l = record {
  lawful : Each IsConfigBlock l.left;
  same : after_values (flat_map block_cells l.left) l.bytes ≡ after_values (flat_map block_cells l.blocks) l.fn.bytes;
}

abbrev pub decreases-loop-block : goal.decreases-loop-block
decreases-loop-block l = length l.left
