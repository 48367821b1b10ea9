use Rattle.std.proofs.Common.{arith}
use Rattle.lines.proofs.Tables.{blank_at}
use Rattle.lines.proofs.words.is_blank.Goals as goal

pub returns : goal.returns
returns c = blank_at c.args.byte (omega arith)
