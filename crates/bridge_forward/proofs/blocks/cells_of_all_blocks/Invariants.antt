use Rattle.std.{proofs.Common.{◌≡◌, ◌<◌, ℕ, Some, length}, specs.List.slice_get}
use Rattle.bridge_forward.specs.EndpointParts.{declared_block, as_made}
use Rattle.bridge_forward.proofs.blocks.cells_of_all_blocks.Given as goal

abbrev pub invariant-loop-index : goal.invariant-loop-index
invariant-loop-index l = record {
  count : length l.blocks.items ≡ l.index;
  filled : (n : ℕ) → n < l.index → slice_get l.blocks.items n ≡ Some (as_made (declared_block l.regions n));
}
