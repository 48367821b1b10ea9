use Rattle.std.proofs.Common.{append_assoc, arith}
use Rattle.findings.proofs.Decimals.{one_digit, two_digits}
use Rattle.findings.proofs.path_texts.push_decimal.Goals as goal

pub returns-clause-items : goal.returns-clause-items
returns-clause-items c = grind (arith, append_assoc, one_digit c.args.number, two_digits c.args.number)
