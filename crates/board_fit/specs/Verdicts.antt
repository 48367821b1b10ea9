-- The verdict on the board of a file.
--     remarks_of w f xs fault      the entries that are why it can't be set up, if there is a fault; else what may be a mistake
--     IsVerdict w f b a v      the fault is that of the first rule of set-up that the board breaks, if it breaks one; so do
--         its pools fit, and these are the remarks
use Rattle.std.specs.Prelude.{◌≡◌, List, map, Option, Some, None, option_map}
use Rattle.model_registers.specs.{Apertures.Apertures, DeclarationRules.first_broken}
use Rattle.model_board.specs.Board.{Board}
use Rattle.model_set_up.specs.SetUpWrites.{set_up_rules}
use Rattle.bus_scan.specs.{Faults.number_of, declared.fault.Fault.Fault}
use Rattle.board_file.specs.Entries.{File}
use Rattle.board_fit.specs.{declared.{judging.Verdict.Verdict, pool_fit.PoolFit.PoolFit, remark.Remark.Remark, warning_level.WarningLevel.WarningLevel}, Misfits.remarks_on_fault_causes, PlacedRemarks.remark_of, PoolFits.reported_pool_fits, Warnings.warnings}

abbrev pub remarks_of : WarningLevel → File → List PoolFit → Option Fault → List Remark
remarks_of w f xs None = warnings w f xs
remarks_of w f xs (Some fault) = remarks_on_fault_causes f fault

pub record IsVerdict (w : WarningLevel) (f : File) (b : Board) (a : Apertures) (v : Verdict) : Type 0 where
  pub rule : first_broken (set_up_rules b a) ≡ option_map number_of v.fault
  pub fits : v.fits.items ≡ reported_pool_fits b a v.fault
  pub remarks : map remark_of v.remarks.items ≡ remarks_of w f v.fits.items v.fault
