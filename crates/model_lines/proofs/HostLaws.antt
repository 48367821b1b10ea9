-- What firmware's accesses keep, and what two ways to a register have in common.
use Rattle.std.proofs.{Common.{Bool, cond, refl, ap, arith}, lemmas.Bool.Decides.nat_tests}
use Rattle.model_lines.specs.{HostAccesses.effect, FirmwareLines.after_meaning, FirmwareLaws.{BadLinesChangeNothing, DataIsByNumber, LatchIsPort, LongLinesAlike, ReadsChangeNoRegister, RefusedChangesNothing}}

pub latch_is_port : LatchIsPort
latch_is_port s v = (refl, refl)

pub data_is_by_number : DataIsByNumber
data_is_by_number s k w v on few = grind (arith, nat_tests)

pub refused_changes_nothing : RefusedChangesNothing
refused_changes_nothing s a is = ap (λ (b : Bool). cond b s (effect s a.width a.target a.op)) is

pub bad_lines_change_nothing : BadLinesChangeNothing
bad_lines_change_nothing s line who n is = ap (after_meaning s) is

pub reads_change_no_register : ReadsChangeNoRegister
reads_change_no_register s w h = grind arith

pub long_lines_alike : LongLinesAlike
long_lines_alike s l m long_l long_m = grind arith
