use Rattle.std.{proofs.Common.{◌≡◌, ◌+◌, ◌*◌, ◌≤◌, length}, specs.Prelude.flat_map}
use Rattle.lists.specs.Elements.{Each}
use Rattle.images.specs.Parts.{region_bytes}
use Rattle.images.proofs.sizes.encoded_regions_size.Given as goal

abbrev pub invariant-loop-region : goal.invariant-loop-region
invariant-loop-region l = record {
  lawful : Each (λ r. length r.cells ≤ 4096) l.left;
  all : l.size + length (flat_map region_bytes l.left) ≡ length (flat_map region_bytes l.regions);
  bound : l.size + 12300 * length l.left ≤ 73800;
}

abbrev pub decreases-loop-region : goal.decreases-loop-region
decreases-loop-region l = length l.left
