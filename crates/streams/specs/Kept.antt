-- The state of a buffering writer, as its contracts describe it.
--     writer_behind w      the inner writer
--     kept_back w      the bytes accepted but not passed on yet
--     is_stopped w      whether a call has failed
--     refusals w      how many calls failed without reaching the inner writer
use Rattle.std.specs.Prelude.{ℕ, List, Bool}
use Rattle.streams.specs.declared.buffered.BufferedWriter.{BufferedWriter}

abbrev pub writer_behind : {W : Type 0} → BufferedWriter W → W
writer_behind w = w.inner

abbrev pub kept_back : {W : Type 0} → BufferedWriter W → List ℕ
kept_back w = w.kept.bytes

abbrev pub is_stopped : {W : Type 0} → BufferedWriter W → Bool
is_stopped w = w.stopped

abbrev pub refusals : {W : Type 0} → BufferedWriter W → ℕ
refusals w = w.refusals
