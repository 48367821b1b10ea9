use Rattle.std.proofs.Common.{arith}
use Rattle.lines.proofs.Buffers.{read_behind}
use Rattle.lines.proofs.pending.read_into_buffer_at.Goals as goal

pub returns-clause-bytes : goal.returns-clause-bytes
returns-clause-bytes g c = grind (arith, read_behind)
