use Rattle.std.{proofs.Common.{◌≡◌, ◌≤◌, ◌+◌, length}, specs.Prelude.flat_map}
use Rattle.lists.specs.Elements.{Each}
use Rattle.model_registers.specs.Declarations.{IsLawfulRegion}
use Rattle.images.specs.{Puts.put, Shown.region_values}
use Rattle.images.proofs.function_values.put_values_of_regions_and_advance.Given as goal

-- what is left finishes what is asked
abbrev pub invariant-loop-region : goal.invariant-loop-region
invariant-loop-region l = record {
  lawful : Each IsLawfulRegion l.left;
  counts : Each (λ r. length r.cells ≤ 4096) l.left;
  room : l.next + length (flat_map (region_values l.endpoint l.own) l.left) ≤ length l.out;
  end : l.next + length (flat_map (region_values l.endpoint l.own) l.left) ≡ l.at + length (flat_map (region_values l.endpoint l.own) l.regions);
  bytes : put l.next (flat_map (region_values l.endpoint l.own) l.left) l.out ≡ put l.at (flat_map (region_values l.endpoint l.own) l.regions) l.fn.out;
}

abbrev pub decreases-loop-region : goal.decreases-loop-region
decreases-loop-region l = length l.left
