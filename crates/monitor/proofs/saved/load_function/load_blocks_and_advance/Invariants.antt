use Rattle.std.proofs.Common.{◌≤◌, length}
use Rattle.model_images.specs.StepLaws.{blocks_size}
use Rattle.monitor.{specs.Loadings.KeepsFunction, proofs.LoadedParts.AtBlock}
use Rattle.monitor.proofs.saved.load_function.load_blocks_and_advance.Given as goal

-- the blocks so far have their values
abbrev pub invariant-loop-block : goal.invariant-loop-block
invariant-loop-block l = record {
  at : (k : KeepsFunction l.fn.host l.guests l.guest l.slot) → blocks_size k.f.decl.blocks ≤ length l.values → AtBlock k l.values l.block l.count l.left l.host l.guests;
  low : l.block ≤ l.count;
}
