use Rattle.std.proofs.Common.{arith}
use Rattle.lines.proofs.Endings.{stopped_after}
use Rattle.lines.proofs.pieces.run_last_and_flush.Goals as goal

pub returns-then-is_err-clause-stopped : goal.returns-then-is_err-clause-stopped
returns-then-is_err-clause-stopped g c = grind (arith, stopped_after)
