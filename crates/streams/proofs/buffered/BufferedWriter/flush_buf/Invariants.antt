use Rattle.std.{proofs.Common.{◌≡◌, true, length}, specs.Io.KnownBytes.{Keeps, append_known}}
use Rattle.streams.proofs.buffered.BufferedWriter.flush_buf.Given as goal

abbrev pub invariant-loop-self : goal.invariant-loop-self
invariant-loop-self g l = record {
  bytes : Keeps (append_known (g.W.Writer.written l.initial.self.inner) l.initial.self.kept.bytes)
      (append_known (g.W.Writer.written l.self.inner) l.self.kept.bytes);
  stopped : l.self.stopped ≡ true;
  refusals : l.self.refusals ≡ l.initial.self.refusals;
  failures : g.W.Writer.failures l.self.inner ≡ g.W.Writer.failures l.initial.self.inner;
}

abbrev pub decreases-loop-self : goal.decreases-loop-self
decreases-loop-self g l = length l.self.kept.bytes
