-- What a check finds of a board file.
--     IsFaultOf board fault      a check of the file that it fails, or a rule of set-up that its board breaks, in either case
--         the first; none, if it declares a board that can be set up
--     IsOutOfMemory f      memory is out
use Rattle.std.specs.Prelude.{◌≡◌, ◌≢◌, Option, None, Some}
use Rattle.model_guests.specs.{Text.Text, World.World}
use Rattle.session.specs.{declared.opening.OpenFault.{OpenFault, TheVariants.{File, SetUp}}, Files.{Breaks, IsSetUp, Refuses}}
use Rattle.board_file.specs.declared.fault.BoardFault.TheVariants as file
use Rattle.board_file.specs.Faults as board_file
use Rattle.bus_scan.specs.declared.fault.Fault.TheVariants as set_up
use Rattle.bus_scan.specs.Faults as bus_scan

abbrev pub IsFaultOf : (board : Text) → Option OpenFault → Type 0
IsFaultOf board None = (w : World) × IsSetUp board w
IsFaultOf board (Some (File b)) = (b ≢ file.Memory) × Refuses board (board_file.number_of b)
IsFaultOf board (Some (SetUp s)) = (s ≢ set_up.Memory) × Breaks board (bus_scan.number_of s)

abbrev pub IsOutOfMemory : OpenFault → Type 0
IsOutOfMemory (File b) = b ≡ file.Memory
IsOutOfMemory (SetUp s) = s ≡ set_up.Memory
