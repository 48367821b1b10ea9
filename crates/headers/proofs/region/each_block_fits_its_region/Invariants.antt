use Rattle.std.{proofs.Common.{◌≡◌, Bool, List, length, leb}, specs.List.list_all}
use Rattle.lists.specs.Elements.{Each}
use Rattle.model_registers.specs.Declarations.{Region, IsLawfulSize}
use Rattle.headers.proofs.region.each_block_fits_its_region.Given as goal

abbrev fit : List Region → Bool
fit = list_all (λ (r : Region). leb (length r.cells) r.size)

abbrev pub invariant-loop-first : goal.invariant-loop-first
invariant-loop-first l = (fit l.regions ≡ fit l.left) × (Each (λ (r : Region). IsLawfulSize r.kind r.size) l.left → Each (λ (r : Region). IsLawfulSize r.kind r.size) l.regions)

abbrev pub decreases-loop-first : goal.decreases-loop-first
decreases-loop-first l = length l.left
