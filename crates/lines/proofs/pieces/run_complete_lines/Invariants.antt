use Rattle.std.{proofs.Common.{◌≡◌, ◌++◌, ◌<◌, length}, specs.Prelude.{IsTrue, IsFalse}}
use Rattle.model_guests.specs.{Text.Text, LineRuns.HasNoEnd}
use Rattle.lines.specs.Pieces.{IsBefore, Reaches}
use Rattle.lines.proofs.pieces.run_complete_lines.Given as goal

abbrev pub invariant-loop-line : goal.invariant-loop-line
invariant-loop-line g l = record {
  taken : (done : Text) × (l.fn.text ≡ done ++ l.rest);
  runs : (before : Text) → HasNoEnd before → IsBefore l.fn.long before →
      (run : Reaches g.S.Answers.protocol l.fn.server (before ++ l.fn.text) l.rest l.long (g.W.Writer.written l.fn.writer) (g.W.Writer.written l.writer) l.server)
      × (IsTrue l.wrote → 0 < length run.whole);
  silent : IsFalse l.wrote → l.writer ≡ l.fn.writer;
  failures : g.W.Writer.failures l.writer ≡ g.W.Writer.failures l.fn.writer;
}

abbrev pub decreases-loop-line : goal.decreases-loop-line
decreases-loop-line g l = length l.rest
