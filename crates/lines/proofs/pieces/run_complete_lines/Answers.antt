use Rattle.std.proofs.Common.{◌≡◌, ◌++◌, ◌∷◌, ◌∙◌, true, false, [], Err, sym, ap, append_assoc, arith}
use Rattle.model_guests.specs.Text.{Text}
use Rattle.lines.{specs.declared.pieces.Stop.TheVariants.{Failed, Memory}, proofs.{Buffers.rest_is_last, Reaching.{reaches_first, reaches_line, stops_at, stops_flush, stops_kept, lacks_at}, Results.by_flag}}
use Rattle.lines.proofs.pieces.run_complete_lines.Goals as goal

-- a line and its LF are taken off the front
taken_more : (text rest line after : Text) → (done : Text) × (text ≡ done ++ rest) → rest ≡ line ++ 10 ∷ after → (done : Text) × (text ≡ done ++ after)
taken_more text rest line after taken cut = (
  taken.0 ++ (line ++ 10 ∷ []),
  taken.1 ∙ ap (λ (t : Text). taken.0 ++ t) (cut ∙ sym (append_assoc line (10 ∷ []) after)) ∙ sym (append_assoc taken.0 (line ++ 10 ∷ []) after),
)

pub loop-line-init : goal.loop-line-init
loop-line-init g c = grind (arith, reaches_first)

pub returns-in-Err-Failed-clause-stops : goal.returns-in-Err-Failed-clause-stops
returns-in-Err-Failed-clause-stops g c = λ is before clean passed.
    let run = (c.loop-line.invariant.runs before clean passed).0 in
    let same : c.in-Err-Failed.field-0 ≡ Failed = cc in
    let failed = c.in-Err-Failed.ensures.failed (ap Err same) run.before run.passed in
    stops_at c.in-Some.line.now c.in-Some.after.now failed.0 c.in-Some.ensures.line.1 run c.in-Some.ensures.line.0 failed.1 failed.2
    (c.in-Err-Failed.ensures.failed_after (ap Err same) run.before run.passed)

pub returns-in-Err-Memory-clause-stops : goal.returns-in-Err-Memory-clause-stops
returns-in-Err-Memory-clause-stops g c = λ is before clean passed.
    let same : c.in-Err-Memory.field-0 ≡ Memory = cc in
    let lacking = c.in-Err-Memory.ensures.lacking (ap Err same) in
    let run = c.loop-line.invariant.runs before clean passed in
    let wrote : c.flush_on_memory_stop.result ≡ Failed = cc in
    rw lacking.0 (stops_kept (stops_flush run.0 (run.1 (c.flush_on_memory_stop.ensures.wrote wrote))) (rw lacking.1 at c.flush_on_memory_stop.ensures.bytes))

pub returns-in-Err-Memory-clause-lacks : goal.returns-in-Err-Memory-clause-lacks
returns-in-Err-Memory-clause-lacks g c = λ is before clean passed.
    let same : c.in-Err-Memory.field-0 ≡ Memory = cc in
    let lacking = c.in-Err-Memory.ensures.lacking (ap Err same) in
    let run = (c.loop-line.invariant.runs before clean passed).0 in
    rw lacking.0 (lacks_at c.in-Some.line.now c.in-Some.after.now c.in-Some.ensures.line.1 run c.in-Some.ensures.line.0 (rw lacking.1 at c.flush_on_memory_stop.ensures.bytes))

pub returns-in-Err-Memory-clause-flushed : goal.returns-in-Err-Memory-clause-flushed
returns-in-Err-Memory-clause-flushed g c = grind (arith, by_flag)

pub loop-line-preserved-then-wrote : goal.loop-line-preserved-then-wrote
loop-line-preserved-then-wrote g c = record {
  taken = taken_more c.args.text.now c.loop-line.rest.now c.in-Some.line.now c.in-Some.after.now c.loop-line.invariant.taken c.in-Some.ensures.line.1;
  runs = λ before clean passed.
      reaches_line c.in-Some.line.now c.in-Some.ensures.line.1 (c.loop-line.invariant.runs before clean passed).0 c.in-Some.ensures.line.0 c.in-Ok.ensures.output c.in-Ok.ensures.after;
  silent = λ untold. absurd (let wrong : true ≡ false = sym c.if-wrote.true ∙ untold in cc);
  failures = omega (arith, c.in-Ok.ensures.failures, c.loop-line.invariant.failures);
}

pub loop-line-preserved : goal.loop-line-preserved
loop-line-preserved g c = record {
  taken = taken_more c.args.text.now c.loop-line.rest.now c.in-Some.line.now c.in-Some.after.now c.loop-line.invariant.taken c.in-Some.ensures.line.1;
  runs = λ before clean passed.
      reaches_line c.in-Some.line.now c.in-Some.ensures.line.1 (c.loop-line.invariant.runs before clean passed).0 c.in-Some.ensures.line.0 c.in-Ok.ensures.output c.in-Ok.ensures.after;
  silent = λ untold. c.in-Ok.ensures.silent untold ∙ c.loop-line.invariant.silent c.if-wrote.false;
  failures = omega (arith, c.in-Ok.ensures.failures, c.loop-line.invariant.failures);
}

pub returns-clause-runs : goal.returns-clause-runs
returns-clause-runs g c = rw (rest_is_last c.args.text.now c.loop-line.invariant.taken.0 c.loop-line.rest.now c.loop-line.invariant.taken.1) c.loop-line.invariant.runs
