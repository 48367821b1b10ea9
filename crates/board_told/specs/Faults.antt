-- Why the program fails, as numbers and words.
--     number_of, words_of      the number and the words of a fault
--     of_open, of_run      the fault of a board that is not set up, and of a run
use Rattle.std.specs.Prelude.{ℕ, List, codes}
use Rattle.lines.specs.declared.runs.RunFault.{RunFault}
use Rattle.session.specs.declared.opening.OpenFault.{OpenFault}
use Rattle.board_told.specs.declared.fault.Fault.{Fault, TheVariants.{File, SetUp, NotInOrder, NotReady, RefusedLine, Read, Write, Usage, BoardFile, WordMemory}}
use Rattle.board_file.specs.declared.fault.BoardFault.TheVariants as file
use Rattle.board_file.specs.Faults as board_file
use Rattle.bus_scan.specs.declared.fault.Fault.TheVariants as set_up
use Rattle.bus_scan.specs.Faults as bus_scan
use Rattle.lines.specs.declared.runs.RunFault.TheVariants as run
use Rattle.session.specs.declared.opening.OpenFault.TheVariants as opening

abbrev pub number_of : Fault → ℕ
number_of (File b) = board_file.number_of b
number_of (SetUp s) = bus_scan.number_of s
number_of NotInOrder = 207
number_of NotReady = 208
number_of RefusedLine = 209
number_of Read = 501
number_of Write = 502
number_of Usage = 701
number_of BoardFile = 702
number_of WordMemory = 799

abbrev pub words_of : Fault → List ℕ
words_of (File b) = board_file.fault_words b
words_of (SetUp s) = bus_scan.fault_words s
words_of NotInOrder = codes "not in order"
words_of NotReady = codes "not ready"
words_of RefusedLine = codes "refused line"
words_of Read = codes "read failed"
words_of Write = codes "write failed"
words_of Usage = codes "usage"
words_of BoardFile = codes "board file"
words_of WordMemory = codes "memory"

abbrev pub of_open : OpenFault → Fault
of_open (opening.File b) = File b
of_open (opening.SetUp s) = SetUp s

abbrev pub of_run : RunFault → Fault
of_run run.Read = Read
of_run run.Write = Write
of_run run.Memory = SetUp set_up.Memory
