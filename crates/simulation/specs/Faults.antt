-- The reasons why the program fails.
--     line_of      the line of a fault
--     open_fault f      the fault of the file or its board, if it is one
--     OnRun P r      how a run of lines ended has P, if any ran before r
--     IsOfFile f      the file is refused, or memory is out while it is read
--     IsOfBoard f      so too, or of its board
--     IsRefusal f      so too, and memory isn't out
--     OnFile P f, OnSetUp P f      where f refuses the file, or its board, its number has P
--     read_faults, write_faults      whether a result is the fault of the reader, or of the writer
--     IsToldLast f      f is reported once all output was written and flushed
--     IsOfList, IsOfRun      a fault of a listing, or of a run over a board that is set up
--     IsOfSession      a fault of a session over a board at reset
--     IsOfRunAs strict      a fault of a run, or a line was refused, where that is a fault
use Rattle.std.specs.Prelude.{◌≡◌, ◌≢◌, ℕ, Bool, true, ◌++◌, List, Option, None, Some, Result, Ok, Err, codes, decimal, ⊤}
use Rattle.lines.specs.declared.runs.RunFault.{RunFault}
use Rattle.session.specs.declared.opening.OpenFault.{OpenFault}
use Rattle.board_told.specs.{Faults.{number_of, words_of}, declared.fault.Fault.{Fault, TheVariants.{File, SetUp, NotInOrder, NotReady, RefusedLine, Read, Write}}}
use Rattle.board_file.specs.declared.fault.BoardFault.TheVariants as file
use Rattle.board_file.specs.Faults as board_file
use Rattle.bus_scan.specs.declared.fault.Fault.TheVariants as set_up
use Rattle.bus_scan.specs.Faults as bus_scan
use Rattle.lines.specs.declared.runs.RunFault.TheVariants as run
use Rattle.session.specs.declared.opening.OpenFault.TheVariants as opening

-- pciguest: fault N WORDS
abbrev pub line_of : Fault → List ℕ
line_of f = codes "pciguest: fault " ++ decimal (number_of f) ++ codes " " ++ words_of f ++ codes "\n"

abbrev pub OnRun : {T : Type 0} → (Result T RunFault → Type 0) → Result T Fault → Type 0
OnRun P (Ok x) = P (Ok x)
OnRun P (Err Read) = P (Err run.Read)
OnRun P (Err Write) = P (Err run.Write)
OnRun P (Err other) = ⊤

abbrev pub open_fault : Fault → Option OpenFault
open_fault (File b) = Some (opening.File b)
open_fault (SetUp s) = Some (opening.SetUp s)
open_fault _ = None

abbrev pub IsOfFile : Fault → Type 0
IsOfFile (File b) = ⊤
IsOfFile _ = ⊥

abbrev pub IsOfBoard : Fault → Type 0
IsOfBoard (SetUp s) = ⊤
IsOfBoard f = IsOfFile f

abbrev pub IsRefusal : Fault → Type 0
IsRefusal (File b) = b ≢ file.Memory
IsRefusal (SetUp s) = s ≢ set_up.Memory
IsRefusal _ = ⊥

abbrev pub IsToldLast : Fault → Type 0
IsToldLast NotInOrder = ⊤
IsToldLast NotReady = ⊤
IsToldLast RefusedLine = ⊤
IsToldLast _ = ⊥

abbrev pub OnFile : (ℕ → Type 0) → Fault → Type 0
OnFile P (File b) = b ≢ file.Memory → P (board_file.number_of b)
OnFile P _ = ⊤

abbrev pub OnSetUp : (ℕ → Type 0) → Fault → Type 0
OnSetUp P (SetUp s) = s ≢ set_up.Memory → P (bus_scan.number_of s)
OnSetUp P _ = ⊤

abbrev pub read_faults : {T : Type 0} → Result T Fault → ℕ
read_faults (Ok x) = 0
read_faults (Err Read) = 1
read_faults (Err other) = 0

abbrev pub write_faults : {T : Type 0} → Result T Fault → ℕ
write_faults (Ok x) = 0
write_faults (Err Write) = 1
write_faults (Err other) = 0

-- the file or its board is refused, memory is out, or a write failed
abbrev pub IsOfList : Fault → Type 0
IsOfList Write = ⊤
IsOfList f = IsOfBoard f

-- so too, or a read failed
abbrev pub IsOfRun : Fault → Type 0
IsOfRun Read = ⊤
IsOfRun f = IsOfList f

-- the file is refused, memory is out while it is read or once lines ran, or a read or write failed
abbrev pub IsOfSession : Fault → Type 0
IsOfSession Read = ⊤
IsOfSession Write = ⊤
IsOfSession (SetUp s) = s ≡ set_up.Memory
IsOfSession f = IsOfFile f

-- if `strict`, a refused line is a fault
abbrev pub IsOfRunAs : Bool → Fault → Type 0
IsOfRunAs strict RefusedLine = strict ≡ true
IsOfRunAs strict f = IsOfRun f
