-- Whose failure the fault of a run is.
--     read_failures_of      one where the reader failed
--     write_failures_of      one where the writer failed
--     stop_failures_of      so too of a piece
--     of_stop      the fault of a run for that of a piece
--     number_of      the number of a fault
use Rattle.std.specs.Prelude.{ℕ, Result, Ok, Err}
use Rattle.lines.specs.declared.{pieces.Stop.Stop, runs.RunFault.{RunFault, TheVariants.{Read, Write, Memory}}}
use Rattle.lines.specs.declared.pieces.Stop.TheVariants as stop

abbrev pub read_failures_of : {T : Type 0} → Result T RunFault → ℕ
read_failures_of (Ok x) = 0
read_failures_of (Err Read) = 1
read_failures_of (Err Write) = 0
read_failures_of (Err Memory) = 0

abbrev pub write_failures_of : {T : Type 0} → Result T RunFault → ℕ
write_failures_of (Ok x) = 0
write_failures_of (Err Read) = 0
write_failures_of (Err Write) = 1
write_failures_of (Err Memory) = 0

abbrev pub stop_failures_of : {T : Type 0} → Result T Stop → ℕ
stop_failures_of (Ok x) = 0
stop_failures_of (Err stop.Failed) = 1
stop_failures_of (Err stop.Memory) = 0

abbrev pub number_of : RunFault → ℕ
number_of Read = 501
number_of Write = 502
number_of Memory = 299

abbrev pub of_stop : Stop → RunFault
of_stop stop.Failed = Write
of_stop stop.Memory = Memory
