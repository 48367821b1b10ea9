use Rattle.std.proofs.Common.{arith}
use Rattle.lists.specs.Elements.{Each}
use Rattle.model_registers.specs.{Cell.IsCell, Declarations.Region}
use Rattle.images.proofs.IndexedDeclarations.{each_of}
use Rattle.images.proofs.declarations.prove_region_cells_are_lawful.Goals as goal

pub loop-region-preserved : goal.loop-region-preserved
loop-region-preserved c = each_of (λ (r : Region). Each IsCell r.cells) c.in-Some.region.now c.loop-region.left.now c.in-Some.rest.now c.args.regions.now (grind arith) (grind arith) c.loop-region.invariant
