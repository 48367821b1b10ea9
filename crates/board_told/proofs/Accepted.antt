-- The fault of a board that a file declares.
use Rattle.std.{proofs.Common.{◌≡◌, Option, Some, None, option_map, arith}, specs.Prelude.◌≢◌}
use Rattle.model_registers.specs.DeclarationRules.{first_broken}
use Rattle.model_set_up.specs.SetUpWrites.{set_up_rules}
use Rattle.model_guests.specs.{Text.Text, World.World}
use Rattle.bus_scan.specs.{Faults.number_of, declared.fault.Fault.Fault as SetUpFault}
use Rattle.session.specs.{declared.opening.OpenFault.{OpenFault, TheVariants.SetUp}, Files.Declares}
use Rattle.board_told.specs.Checking.{IsFaultOf}
use Rattle.bus_scan.specs.declared.fault.Fault.TheVariants as set_up

pub fault_of : (bytes : Text) (w : World) (fault : Option SetUpFault) (told : Option OpenFault) → fault ≢ Some set_up.Memory → Declares bytes w
    → first_broken (set_up_rules w.board w.apertures) ≡ option_map number_of fault → told ≡ option_map SetUp fault → IsFaultOf bytes told
fault_of bytes w None told known declared rule same = grind arith
fault_of bytes w (Some s) told known declared rule same = grind arith
