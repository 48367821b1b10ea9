use Rattle.std.proofs.Common.{◌∙◌, sym, refl, arith}
use Rattle.images.{specs.{Faults.number_of, Parts.block_bytes}, proofs.ComparedBytes.{ends_of, goes_on_of}}
use Rattle.images.proofs.comparing.strip_block_decls.Goals as goal

pub returns-in_err-bytes-clause-refused : goal.returns-in_err-bytes-clause-refused
returns-in_err-bytes-clause-refused c = let e = sym c.loop-block.invariant.same ∙ ends_of block_bytes c.in-Some.block.now c.loop-block.left.now c.in-Some.rest.now 906 (number_of c.in_err-bytes.field-0.0) (block_bytes c.in-Some.block.now) c.loop-block.bytes.now (grind arith) refl c.in_err-bytes.ensures.refused in grind arith

pub loop-block-preserved : goal.loop-block-preserved
loop-block-preserved c = record { lawful = grind arith; same = goes_on_of block_bytes c.in-Some.block.now c.loop-block.left.now c.in-Some.rest.now 906 (block_bytes c.in-Some.block.now) c.loop-block.bytes.now c.in_ok-bytes.bytes.now (grind arith) refl c.in_ok-bytes.ensures.left ∙ c.loop-block.invariant.same }
