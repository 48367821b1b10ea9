-- If entries of a file prevent its board from being set up, at least one of them is named.
--     names_entries      the faults for which that is so: bus numbers (201), and I/O windows (202)
--     BusAndIoFaultsNameEntries      where set-up refuses the board of a file by such a fault, an entry is named
use Rattle.std.specs.Prelude.{◌≡◌, ◌≢◌, Bool, true, false, [], Some}
use Rattle.model_registers.specs.DeclarationRules.{first_broken}
use Rattle.model_board.specs.Places.{board_of}
use Rattle.model_set_up.specs.SetUpWrites.{set_up_rules}
use Rattle.board_file.specs.{Entries.File, Functions.{rows, apertures}}
use Rattle.bus_scan.specs.{Faults.number_of, declared.fault.Fault.{Fault, TheVariants.{Buses, NoIoWindow}}}
use Rattle.board_fit.specs.Misfits.{remarks_on_fault_causes}

abbrev pub names_entries : Fault → Bool
names_entries Buses = true
names_entries NoIoWindow = true
names_entries _ = false

abbrev pub BusAndIoFaultsNameEntries : Type 0
BusAndIoFaultsNameEntries = (f : File) (fault : Fault) → names_entries fault ≡ true
    → first_broken (set_up_rules (board_of (rows f)) (apertures f)) ≡ Some (number_of fault) → remarks_on_fault_causes f fault ≢ []
