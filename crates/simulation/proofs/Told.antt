-- What a check tells, by how it ended.
use Rattle.std.{proofs.Common.{◌≡◌, Result, Ok, Err, refl}, specs.Prelude.{OnOk, IfErr, IsErrOf, None}}
use Rattle.model_guests.specs.Text.{Text}
use Rattle.lines.specs.Runs.{Ends}
use Rattle.board_told.specs.declared.fault.Fault.{Fault, TheVariants.Write}
use Rattle.simulation.specs.{Checking.{IsChecked, IsCheckedInPart}, Choices.Checks, Faults.{open_fault, IsRefusal}}

pub checks : {T : Type 0} (board : Text) (at : Ends) (r : Result T Fault)
    → OnOk r (IsChecked board None at.before at.after) → OnOk r (at.flushed ≡ at.after)
    → IfErr r (λ f. IsRefusal f → IsChecked board (open_fault f) at.before at.after) → IfErr r (λ f. IsRefusal f → at.flushed ≡ at.after)
    → (IsErrOf r Write → IsCheckedInPart at.before at.after) → Checks board at r
checks board at (Ok x) fits flushed told told_flushed stopped = (fits, flushed)
checks board at (Err Write) fits flushed told told_flushed stopped = stopped refl
checks board at (Err _) fits flushed told told_flushed stopped = λ is. (told is, told_flushed is)
