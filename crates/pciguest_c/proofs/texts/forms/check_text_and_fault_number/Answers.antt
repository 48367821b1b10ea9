use Rattle.std.proofs.Common.{arith}
use Rattle.pciguest_c.proofs.OpenFaults.{known, out_of_memory}
use Rattle.pciguest_c.proofs.texts.forms.check_text_and_fault_number.Goals as goal

pub returns-in-Ok-clause-told : goal.returns-in-Ok-clause-told
returns-in-Ok-clause-told c = grind arith

pub returns-in-Ok-clause-numbers : goal.returns-in-Ok-clause-numbers
returns-in-Ok-clause-numbers c = grind (arith, known)

pub returns-in-Err-clause-memory : goal.returns-in-Err-clause-memory
returns-in-Err-clause-memory c = rw (c.from.ensures, c.number.ensures) (out_of_memory c.in-Err.fault c.in-Err.ensures.memory)
