use Rattle.std.proofs.Common.{arith}
use Rattle.session.proofs.Declared.{declares, opened, refused_file}
use Rattle.session.proofs.opening.set_up_file_and_assign.Goals as goal

pub returns-in_err-host-clause-file : goal.returns-in_err-host-clause-file
returns-in_err-host-clause-file c = grind (arith, refused_file)

pub returns-clause-opened : goal.returns-clause-opened
returns-clause-opened c = grind (arith, opened, declares)
