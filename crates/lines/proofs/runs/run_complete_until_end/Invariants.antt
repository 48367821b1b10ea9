use Rattle.std.{proofs.Common.{◌≡◌, ◌≤◌, ◌⊎◌, length}, specs.Io.KnownBytes.Consumes}
use Rattle.model_guests.specs.{Text.Text, LineRuns.HasNoEnd}
use Rattle.lines.specs.Pieces.{Reaches}
use Rattle.lines.proofs.runs.run_complete_until_end.Given as goal

abbrev pub invariant-loop-more : goal.invariant-loop-more
invariant-loop-more g l = record {
  runs : (read : Text) × Consumes (g.R.Reader.rest l.fn.reader) (g.R.Reader.rest l.reader) read
      × Reaches g.S.Answers.protocol l.fn.server read l.pending.text l.pending.long (g.W.Writer.written l.fn.writer) (g.W.Writer.written l.writer) l.server;
  rest : HasNoEnd l.pending.text;
  few : length l.pending.text ≤ 200;
  flushed : (g.W.Writer.flushed l.writer ≡ g.W.Writer.written l.writer) ⊎ (l.writer ≡ l.fn.writer);
  reads : g.R.Reader.failures l.reader ≡ g.R.Reader.failures l.fn.reader;
  writes : g.W.Writer.failures l.writer ≡ g.W.Writer.failures l.fn.writer;
}

abbrev pub decreases-loop-more : goal.decreases-loop-more
decreases-loop-more g l = g.R.Reader.reads_left l.reader
