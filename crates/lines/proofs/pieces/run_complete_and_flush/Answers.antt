use Rattle.std.proofs.Common.{◌∙◌, sym, arith}
use Rattle.lines.proofs.{Reaching.{stops_flush, stops_kept, reaches_kept, reaches_held}, Results.{err_part, ok_part, by_flag}}
use Rattle.lines.proofs.pieces.run_complete_and_flush.Goals as goal

pub returns-then-is_err-clause-stops : goal.returns-then-is_err-clause-stops
returns-then-is_err-clause-stops g c = λ is before clean passed.
    let runs = rw (c.text.ensures, c.is_long.ensures) at c.in_ok-left.ensures.runs in
    let run = runs before clean passed in
    stops_kept (stops_flush run.0 (run.1 (err_part c.flush_if.result (sym c.is_err.ensures.value ∙ c.if-is_err.true) c.flush_if.ensures.wrote))) c.flush_if.ensures.bytes

pub returns-clause-rest : goal.returns-clause-rest
returns-clause-rest g c = c.keep_last_or_skip.ensures.rest (rw c.text.ensures at c.in_ok-left.ensures.rest)

pub returns-clause-runs : goal.returns-clause-runs
returns-clause-runs g c = λ before clean passed.
    let runs = rw (c.text.ensures, c.is_long.ensures) at c.in_ok-left.ensures.runs in
    let run = (runs before clean passed).0 in
    let kept = c.keep_last_or_skip.ensures.text run.before run.passed in
    reaches_kept (reaches_held run (rw c.text.ensures at c.in_ok-left.ensures.rest) kept.0 kept.1 kept.2) c.flush_if.ensures.bytes

pub returns-clause-flushed : goal.returns-clause-flushed
returns-clause-flushed g c = grind (arith, by_flag, ok_part)
