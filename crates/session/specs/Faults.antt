-- Why the board of a board file is not set up.
--     number_of      the number of a fault
--     OnFile P f, OnSetUp P f      where f refuses the file, or its board, its number has P
use Rattle.std.specs.Prelude.{◌≢◌, ℕ, ⊤}
use Rattle.session.specs.declared.opening.OpenFault.{OpenFault, TheVariants.{File, SetUp}}
use Rattle.board_file.specs.declared.fault.BoardFault.TheVariants as file
use Rattle.board_file.specs.Faults as board_file
use Rattle.bus_scan.specs.declared.fault.Fault.TheVariants as set_up
use Rattle.bus_scan.specs.Faults as bus_scan

abbrev pub number_of : OpenFault → ℕ
number_of (File b) = board_file.number_of b
number_of (SetUp s) = bus_scan.number_of s

abbrev pub OnFile : (ℕ → Type 0) → OpenFault → Type 0
OnFile P (File b) = b ≢ file.Memory → P (board_file.number_of b)
OnFile P (SetUp s) = ⊤

abbrev pub OnSetUp : (ℕ → Type 0) → OpenFault → Type 0
OnSetUp P (File b) = ⊤
OnSetUp P (SetUp s) = s ≢ set_up.Memory → P (bus_scan.number_of s)
