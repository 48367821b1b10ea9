use Rattle.std.proofs.{Common.arith, lemmas.Grind.{common_steps, put_two}}
use Rattle.report.proofs.PathTexts.{from_first}
use Rattle.report.proofs.fields.ShownPathDisplay.fmt.Goals as goal

pub returns-clause-writes : goal.returns-clause-writes
returns-clause-writes g c = grind (arith, common_steps, put_two, from_first)
