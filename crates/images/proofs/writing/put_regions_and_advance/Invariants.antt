use Rattle.std.{proofs.Common.{◌≡◌, ◌≤◌, ◌+◌, length}, specs.Prelude.flat_map}
use Rattle.lists.specs.Elements.{Each}
use Rattle.model_registers.specs.Declarations.{IsLawfulRegion}
use Rattle.images.specs.{Parts.region_bytes, Puts.put}
use Rattle.images.proofs.writing.put_regions_and_advance.Given as goal

-- what is left finishes what is asked
abbrev pub invariant-loop-region : goal.invariant-loop-region
invariant-loop-region l = record {
  lawful : Each IsLawfulRegion l.left;
  counts : Each (λ r. length r.cells ≤ 4096) l.left;
  room : l.next + length (flat_map region_bytes l.left) ≤ length l.out;
  end : l.next + length (flat_map region_bytes l.left) ≡ l.at + length (flat_map region_bytes l.regions);
  bytes : put l.next (flat_map region_bytes l.left) l.out ≡ put l.at (flat_map region_bytes l.regions) l.fn.out;
}

abbrev pub decreases-loop-region : goal.decreases-loop-region
decreases-loop-region l = length l.left
