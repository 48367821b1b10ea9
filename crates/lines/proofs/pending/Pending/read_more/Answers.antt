use Rattle.std.proofs.{Common.arith, lemmas.Bool.Decides.nat_tests}
use Rattle.lines.proofs.Buffers.{nothing_more}
use Rattle.lines.proofs.pending.Pending.read_more.Goals as goal

pub returns-clause-end : goal.returns-clause-end
returns-clause-end g c = grind (arith, nat_tests, nothing_more)
