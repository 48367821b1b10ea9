use Rattle.std.proofs.Common.{arith}
use Rattle.pciguest_c.proofs.OpenFaults.{refused, broken}
use Rattle.pciguest_c.proofs.machine.lifecycle.pciguest_raw_new.Goals as goal

pub returns-clause-file : goal.returns-clause-file
returns-clause-file c = grind (arith, refused)

pub returns-clause-placement : goal.returns-clause-placement
returns-clause-placement c = grind (arith, broken)
