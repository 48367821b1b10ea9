use Rattle.std.proofs.Common.{arith}
use Rattle.images.proofs.ComparedBytes.{goes_on, ends}
use Rattle.images.proofs.comparing.strip_block_decl.Goals as goal

pub returns-in_err-bytes-clause-refused : goal.returns-in_err-bytes-clause-refused
returns-in_err-bytes-clause-refused c = grind (arith, ends)

pub returns-clause-left : goal.returns-clause-left
returns-clause-left c = grind (arith, goes_on)

pub returns-clause-refused : goal.returns-clause-refused
returns-clause-refused c = grind (arith, goes_on)
