use Rattle.std.proofs.Common.{arith}
use Rattle.pciguest_c.proofs.OpenFaults.{is_small, refused, broken}
use Rattle.pciguest_c.proofs.texts.forms.report_or_error.Goals as goal

pub returns-in-Err-clause-file : goal.returns-in-Err-clause-file
returns-in-Err-clause-file c = grind (arith, refused)

pub returns-in-Err-clause-placement : goal.returns-in-Err-clause-placement
returns-in-Err-clause-placement c = grind (arith, broken)

pub returns-in-Err-clause-numbers : goal.returns-in-Err-clause-numbers
returns-in-Err-clause-numbers c = grind (arith, is_small)
