use Rattle.std.{proofs.Common.{◌≡◌, ◌+◌, ◌≤◌, length}, specs.Prelude.flat_map}
use Rattle.lists.specs.Elements.{Each}
use Rattle.model_registers.specs.EndpointTable.{region_cells}
use Rattle.images.proofs.sizes.count_bar_and_region_cells.Given as goal

abbrev pub invariant-loop-region : goal.invariant-loop-region
invariant-loop-region l = record {
  lawful : Each (λ r. length r.cells ≤ 4096) l.left;
  all : l.size + length (flat_map (region_cells (λ r. 0)) l.left) ≡ length (flat_map (region_cells (λ r. 0)) l.regions);
  bound : l.size ≤ 24600;
}

abbrev pub decreases-loop-region : goal.decreases-loop-region
decreases-loop-region l = length l.left
