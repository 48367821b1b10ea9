use Rattle.std.proofs.{Common.arith, lemmas.Bool.Decides.nat_tests}
use Rattle.lines.proofs.Splitting.{rest_is, pieces-first, pieces-none}
use Rattle.lines.proofs.words.split_at_blank_or_end.Goals as goal

pub returns-in-Some-clause-piece : goal.returns-in-Some-clause-piece
returns-in-Some-clause-piece c = grind (arith, rest_is, pieces-first)

pub returns-in-None-clause-piece : goal.returns-in-None-clause-piece
returns-in-None-clause-piece c = grind (arith, nat_tests, pieces-none)
