-- Laws of firmware accesses: PCI Local Bus 3.0, chapter 3.2.2.3.2.
--     LatchIsPort      writing 4 bytes at CF8h sets CONFIG_ADDRESS, except for the bits that read 0
--     DataIsByNumber      an access at CFCh to CFFh, if enabled, equals one by BDF to the selected register, which leaves CONFIG_ADDRESS 0
--     RefusedChangesNothing, BadLinesChangeNothing      a refused access or line changes nothing
--     ReadsChangeNoRegister      a read changes no register of a function
--     LongLinesAlike      a line of more than 200 bytes has the same output whatever its words are, and changes nothing
use Rattle.std.specs.Prelude.{◌≡◌, ◌<◌, ◌+◌, ℕ, IsTrue, IsSome}
use Rattle.model_board.specs.{State.State, Ports.{latched, is_enabled, selected, selected_register}}
use Rattle.model_guests.specs.{Accesses.{reads, writes}, Text.Text, Grammar.{HostTarget, host_configuration, host_port, is_long, Who}, HostReads.shown}
use Rattle.model_lines.specs.{HostAccesses.{HostAccess, fault_of, effect, after_access}, FirmwareLines.{bad, meaning, line_output, after_line}}

abbrev pub LatchIsPort : Type 0
LatchIsPort = (s : State) (v : ℕ)
    → (effect s 4 (host_port 0xcf8) (writes v) ≡ record s { latch = latched v })
    × (shown s 4 (host_port 0xcf8) ≡ s.latch)

abbrev pub DataIsByNumber : Type 0
DataIsByNumber = (s : State) (k w v : ℕ) → IsTrue (is_enabled s.latch) → k < 4
    → let at = host_configuration (selected s.latch) (selected_register s.latch + k) in
    (shown s w (host_port (0xcfc + k)) ≡ shown s w at)
    × (record (effect s w (host_port (0xcfc + k)) (writes v)) { latch = 0 } ≡ effect s w at (writes v))

abbrev pub RefusedChangesNothing : Type 0
RefusedChangesNothing = (s : State) (a : HostAccess) → IsSome (fault_of a) → after_access s a ≡ s

abbrev pub BadLinesChangeNothing : Type 0
BadLinesChangeNothing = (s : State) (line : Text) (who : Who) (n : ℕ) → meaning line ≡ bad who n → after_line s line ≡ s

abbrev pub ReadsChangeNoRegister : Type 0
ReadsChangeNoRegister = (s : State) (w : ℕ) (at : HostTarget) → (effect s w at reads).functions ≡ s.functions

abbrev pub LongLinesAlike : Type 0
LongLinesAlike = (s : State) (l m : Text) → IsTrue (is_long l) → IsTrue (is_long m)
    → (line_output s l ≡ line_output s m) × (after_line s l ≡ s)
