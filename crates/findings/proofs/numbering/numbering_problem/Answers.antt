use Rattle.std.proofs.Common.{arith}
use Rattle.findings.proofs.Numbers.{instead_is, none_lost, one_lost}
use Rattle.findings.proofs.numbering.numbering_problem.Goals as goal

pub returns-then-is_reached_path-clause-told : goal.returns-then-is_reached_path-clause-told
returns-then-is_reached_path-clause-told c = grind (arith, none_lost, instead_is)

pub returns-clause-told : goal.returns-clause-told
returns-clause-told c = grind (arith, one_lost, instead_is)
