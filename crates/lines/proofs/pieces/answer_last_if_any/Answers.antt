use Rattle.std.proofs.Common.{arith}
use Rattle.lines.proofs.{Endings.{last_output, last_after, last_stopped}, Results.same_stop}
use Rattle.lines.proofs.pieces.answer_last_if_any.Goals as goal

pub returns-clause-output : goal.returns-clause-output
returns-clause-output g c before passed clean = grind (arith, last_output)

pub returns-clause-after : goal.returns-clause-after
returns-clause-after g c before passed clean = grind (arith, last_after)

pub returns-in_err-run_line_and_write-clause-stopped : goal.returns-in_err-run_line_and_write-clause-stopped
returns-in_err-run_line_and_write-clause-stopped g c is before passed clean = grind (arith, same_stop, last_stopped)
