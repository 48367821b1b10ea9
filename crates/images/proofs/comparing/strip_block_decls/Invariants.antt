use Rattle.std.{proofs.Common.{◌≡◌, length}, specs.Prelude.flat_map}
use Rattle.lists.specs.Elements.{Each}
use Rattle.model_registers.specs.DeclarationRules.{IsConfigBlock}
use Rattle.model_images.specs.LoadedBytes.{after_bytes}
use Rattle.images.specs.Parts.{block_bytes}
use Rattle.images.proofs.comparing.strip_block_decls.Given as goal

-- what is left decides as all does
abbrev pub invariant-loop-block : goal.invariant-loop-block
invariant-loop-block l = record {
  lawful : Each IsConfigBlock l.left;
  same : after_bytes 906 (flat_map block_bytes l.left) l.bytes ≡ after_bytes 906 (flat_map block_bytes l.blocks) l.fn.bytes;
}

abbrev pub decreases-loop-block : goal.decreases-loop-block
decreases-loop-block l = length l.left
