use Rattle.std.proofs.Common.{arith}
use Rattle.images.proofs.Runs.{at_end, goes_on}
use Rattle.images.proofs.function_values.put_shown_and_advance.Goals as goal

pub read_shown_byte-requires : goal.read_shown_byte-requires
read_shown_byte-requires c = λ config. omega (arith, c.loop-left.invariant.config config)

pub loop-left-preserved : goal.loop-left-preserved
loop-left-preserved c = grind (arith, goes_on)

pub returns-clause-bytes : goal.returns-clause-bytes
returns-clause-bytes c = grind (arith, at_end)
