use Rattle.std.{proofs.Common.{◌≡◌, length}, specs.Prelude.flat_map}
use Rattle.lists.specs.Elements.{Each}
use Rattle.model_registers.specs.{Declarations.IsLawfulRegion, EndpointTable.region_cells}
use Rattle.model_images.specs.LoadedBytes.{after_values}
use Rattle.images.proofs.values.strip_fitting_values_of_regions.Given as goal

-- what is left decides as all does
abbrev pub invariant-loop-region : goal.invariant-loop-region
invariant-loop-region l = record {
  lawful : Each IsLawfulRegion l.left;
  same : after_values (flat_map (region_cells (λ r. 0)) l.left) l.bytes ≡ after_values (flat_map (region_cells (λ r. 0)) l.regions) l.fn.bytes;
}

abbrev pub decreases-loop-region : goal.decreases-loop-region
decreases-loop-region l = length l.left
