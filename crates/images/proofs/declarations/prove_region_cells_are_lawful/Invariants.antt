use Rattle.std.proofs.Common.{length}
use Rattle.lists.specs.Elements.{Each}
use Rattle.model_registers.specs.{Cell.IsCell, Declarations.Region}
use Rattle.images.proofs.declarations.prove_region_cells_are_lawful.Given as goal

abbrev pub invariant-loop-region : goal.invariant-loop-region
invariant-loop-region l = Each (λ (r : Region). Each IsCell r.cells) l.left → Each (λ (r : Region). Each IsCell r.cells) l.regions

abbrev pub decreases-loop-region : goal.decreases-loop-region
decreases-loop-region l = length l.left
