use Rattle.std.{proofs.Common.{◌≡◌, ◌++◌, ℕ, List, length}, specs.Io.KnownBytes.Appends}
use Rattle.streams.proofs.writing.write_all.Given as goal

abbrev pub invariant-loop-rest : goal.invariant-loop-rest
invariant-loop-rest g l = record {
  taken : (done : List ℕ) × (l.fn.text ≡ done ++ l.rest) × Appends (g.W.Writer.written l.fn.writer) (g.W.Writer.written l.writer) done;
  failures : g.W.Writer.failures l.writer ≡ g.W.Writer.failures l.fn.writer;
}

abbrev pub decreases-loop-rest : goal.decreases-loop-rest
decreases-loop-rest g l = length l.rest
