use Rattle.std.{proofs.Common.{◌≡◌, ◌≤◌, length}, specs.Prelude.flat_map}
use Rattle.lists.specs.Elements.{Each}
use Rattle.model_registers.specs.Declarations.{IsLawfulRegion}
use Rattle.model_images.specs.LoadedBytes.{after_bytes}
use Rattle.images.specs.Parts.{region_bytes}
use Rattle.images.proofs.comparing.strip_region_decls.Given as goal

-- what is left decides as all does
abbrev pub invariant-loop-region : goal.invariant-loop-region
invariant-loop-region l = record {
  lawful : Each IsLawfulRegion l.left;
  counts : Each (λ r. length r.cells ≤ 4096) l.left;
  same : after_bytes 906 (flat_map region_bytes l.left) l.bytes ≡ after_bytes 906 (flat_map region_bytes l.regions) l.fn.bytes;
}

abbrev pub decreases-loop-region : goal.decreases-loop-region
decreases-loop-region l = length l.left
