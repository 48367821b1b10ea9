use Rattle.std.proofs.Common.{arith, append_assoc}
use Rattle.lines.proofs.Tables.{high_at, low_at}
use Rattle.lines.proofs.replies.push_hex_byte.Goals as goal

pub returns-clause-items : goal.returns-clause-items
returns-clause-items c = grind (arith, high_at, low_at, append_assoc)
