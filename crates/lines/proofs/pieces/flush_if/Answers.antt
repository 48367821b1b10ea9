use Rattle.std.proofs.KnownBytes.{Keeps-refl}
use Rattle.lines.proofs.pieces.flush_if.Goals as goal

pub returns-clause-bytes : goal.returns-clause-bytes
returns-clause-bytes g c = Keeps-refl (g.W.Writer.written c.args.writer.now)
