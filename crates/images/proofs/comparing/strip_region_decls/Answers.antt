use Rattle.std.proofs.Common.{◌∙◌, sym, refl, arith}
use Rattle.images.{specs.{Faults.number_of, Parts.region_bytes}, proofs.ComparedBytes.{ends_of, goes_on_of}}
use Rattle.images.proofs.comparing.strip_region_decls.Goals as goal

pub returns-in_err-bytes-clause-refused : goal.returns-in_err-bytes-clause-refused
returns-in_err-bytes-clause-refused c = let e = sym c.loop-region.invariant.same ∙ ends_of region_bytes c.in-Some.region.now c.loop-region.left.now c.in-Some.rest.now 906 (number_of c.in_err-bytes.field-0.0) (region_bytes c.in-Some.region.now) c.loop-region.bytes.now (grind arith) refl c.in_err-bytes.ensures.refused in grind arith

pub loop-region-preserved : goal.loop-region-preserved
loop-region-preserved c = record { lawful = grind arith; counts = grind arith; same = goes_on_of region_bytes c.in-Some.region.now c.loop-region.left.now c.in-Some.rest.now 906 (region_bytes c.in-Some.region.now) c.loop-region.bytes.now c.in_ok-bytes.bytes.now (grind arith) refl c.in_ok-bytes.ensures.left ∙ c.loop-region.invariant.same }
