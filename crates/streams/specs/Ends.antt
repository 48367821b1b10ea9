-- Counts failed calls of readers and writers, and describes a text that was written only in part.
--     failures_of      an error counts as one failure
--     write_failures_of      a write that accepts no byte also counts as one failure
--     AppendsPart old new text      a prefix of the text was appended to what was written before
use Rattle.std.specs.{Prelude.{◌==◌, ℕ, List, if◌then◌else◌, Option, Result, Ok, Err}, Io.{StartsWith, KnownBytes.Appends}}

abbrev pub failures_of : {T E : Type 0} → Result T E → ℕ
failures_of (Ok x) = 0
failures_of (Err e) = 1

abbrev pub write_failures_of : {E : Type 0} → Result ℕ E → ℕ
write_failures_of (Ok n) = if n == 0 then 1 else 0
write_failures_of (Err e) = 1

abbrev pub AppendsPart : Option (List ℕ) → Option (List ℕ) → List ℕ → Type 0
AppendsPart old new text = (part : List ℕ) × StartsWith text part × Appends old new part
