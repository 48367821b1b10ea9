use Rattle.std.{proofs.{Common.{◌≡◌, ◌⊎◌, ◌++◌, Bool, Err, sym, ap, subst, arith, Option}, KnownBytes.{Consumes-trans, Consumes-kept}}, specs.{Io.KnownBytes.Consumes, Prelude.IfErr}}
use Rattle.model_guests.specs.{Text.Text, LineRuns.Protocol}
use Rattle.lines.{specs.{Pieces.{Pending, Reaches}, Runs.{Runs, ends}}, proofs.{Reaching.{reaches_none, reaches_more, reaches_on, stops_on, lacks_on}, Endings.{cut_of, stopped_of, lacking_of}, Results.{by_stop, lacked}}}
use Rattle.lines.proofs.runs.run_complete_until_end.Goals as goal

-- all is flushed, or nothing was written, also after more of it
flushed_from : {W : Type 0} (flushed written : W → Option Text) (old mid new : W) → (flushed mid ≡ written mid) ⊎ (mid ≡ old)
    → (flushed new ≡ written new) ⊎ (new ≡ mid) → (flushed new ≡ written new) ⊎ (new ≡ old)
flushed_from flushed written old mid new first is = grind arith

pub loop-more-init : goal.loop-more-init
loop-more-init g c = grind (arith, reaches_none)

pub returns-in_default-clause-failed : goal.returns-in_default-clause-failed
returns-in_default-clause-failed g c =
    let runs = c.loop-more.invariant.runs in
    cut_of (Consumes-kept (g.R.Reader.rest c.args.reader.now) (g.R.Reader.rest c.loop-more.reader) (g.R.Reader.rest c.read_more.new.reader) runs.0 runs.1 c.in_default.ensures.kept)
    runs.2 c.loop-more.invariant.rest

-- more bytes came
came : {S : Type 0} (start far next : Option Text) {p : Protocol S} {w : S} {rest : Text} {long : Bool} (more : Pending) {old new : Option Text} {end : S}
    → (read : Text) × Consumes start far read × Reaches p w read rest long old new end
    → (bytes : Text) × Consumes far next bytes × (more ≡ record { text = rest ++ bytes; long = long })
    → (read : Text) × Consumes start next read × Reaches p w read more.text more.long old new end
came start far next {p = p} {w = w} more {old = old} {new = new} {end = end} runs bytes = (
  runs.0 ++ bytes.0,
  Consumes-trans start far next runs.0 bytes.0 runs.1 bytes.1,
  subst (λ (h : Pending). Reaches p w (runs.0 ++ bytes.0) h.text h.long old new end) (sym bytes.2) (reaches_more bytes.0 runs.2),
)

pub returns-then-not-more-clause-runs : goal.returns-then-not-more-clause-runs
returns-then-not-more-clause-runs g c =
    came (g.R.Reader.rest c.args.reader.now) (g.R.Reader.rest c.loop-more.reader) (g.R.Reader.rest c.read_more.new.reader) c.read_more.new.self c.loop-more.invariant.runs c.in-Ok.ensures.bytes

pub returns-in_err-run_complete_and_flush-clause-failed : goal.returns-in_err-run_complete_and_flush-clause-failed
returns-in_err-run_complete_and_flush-clause-failed g c =
    let at = ends (g.R.Reader.rest c.args.reader.now) (g.R.Reader.rest c.read_more.new.reader) (g.W.Writer.written c.args.writer.now) (g.W.Writer.written c.run_complete_and_flush.new.writer) (g.W.Writer.flushed c.run_complete_and_flush.new.writer) in
    let ran = came at.script (g.R.Reader.rest c.loop-more.reader) at.unread c.read_more.new.self c.loop-more.invariant.runs c.in-Ok.ensures.bytes in
    let piece = c.in_err-run_complete_and_flush.ensures in
    by_stop (λ r. IfErr r (λ f. Runs {T = Unit {0}} g.S.Answers.protocol c.args.server.now c.run_complete_and_flush.new.server at (Err f)))
    c.from_residual.result _ c.from_residual.ensures.1
    (λ is script known. stopped_of ran.1 (stops_on ran.2 (piece.stops (ap Err is) ran.2.before ran.2.clean ran.2.passed)) known)
    (λ is script known. lacking_of ran.1 (lacks_on ran.2 (piece.lacks (ap Err is) ran.2.before ran.2.clean ran.2.passed)) known)

pub returns-in_err-run_complete_and_flush-clause-lacking_flushed : goal.returns-in_err-run_complete_and_flush-clause-lacking_flushed
returns-in_err-run_complete_and_flush-clause-lacking_flushed g c = grind (arith, flushed_from, lacked)

pub loop-more-preserved : goal.loop-more-preserved
loop-more-preserved g c =
    let ran = came (g.R.Reader.rest c.args.reader.now) (g.R.Reader.rest c.loop-more.reader) (g.R.Reader.rest c.read_more.new.reader) c.read_more.new.self c.loop-more.invariant.runs c.in-Ok.ensures.bytes in
    record {
      runs = (ran.0, ran.1, reaches_on ran.2 (c.in_ok-run_complete_and_flush.ensures.runs ran.2.before ran.2.clean ran.2.passed));
      rest = c.in_ok-run_complete_and_flush.ensures.rest;
      few = c.in_ok-run_complete_and_flush.ensures.few;
      flushed = flushed_from g.W.Writer.flushed g.W.Writer.written c.args.writer.now c.loop-more.writer c.run_complete_and_flush.new.writer c.loop-more.invariant.flushed c.in_ok-run_complete_and_flush.ensures.flushed;
      reads = omega (arith, c.in-Ok.ensures.failures, c.loop-more.invariant.reads);
      writes = omega (arith, c.in_ok-run_complete_and_flush.ensures.failures, c.loop-more.invariant.writes);
    }

pub returns-then-not-more-clause-flushed : goal.returns-then-not-more-clause-flushed
returns-then-not-more-clause-flushed g c = c.loop-more.invariant.flushed
