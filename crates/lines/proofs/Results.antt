-- What a clause says of a result whose kind is known.
use Rattle.std.{proofs.Common.{◌≡◌, ◌⊎◌, Bool, true, false, Result, Ok, Err, refl, sym, subst, arith}, specs.{Prelude.{OnOk, OnErr, IsErrOf, IsTrue, IsFalse}, Result.{is_err, IsErrAnd}}}
use Rattle.lines.specs.{declared.{pieces.Stop.Stop, runs.RunFault.RunFault}, Faults.of_stop}
use Rattle.lines.specs.declared.pieces.Stop.TheVariants as stop
use Rattle.lines.specs.declared.runs.RunFault.TheVariants as run

pub ok_part : {T E P : Type 0} (r : Result T E) → is_err r ≡ false → OnOk r P → P
ok_part r e p = grind arith

pub err_part : {T E P : Type 0} (r : Result T E) → is_err r ≡ true → OnErr r P → P
err_part r e p = grind arith

-- ---- the error that a `?` hands on

pub same_stop : {T : Type 0} (r : Result T Stop) (e x : Stop) → IsErrAnd r (λ f. f ≡ e) → IsErrOf r x → e ≡ x
same_stop r e x h is = grind arith

pub by_stop : {T : Type 0} (P : Result T RunFault → Type 0) (r : Result T RunFault) (e : Stop) → IsErrAnd r (λ f. f ≡ of_stop e)
    → (e ≡ stop.Failed → P (Err run.Write)) → (e ≡ stop.Memory → P (Err run.Memory)) → P r
by_stop P (Ok y) e h failed lacking = absurd h
by_stop P (Err f) stop.Failed h failed lacking = subst (λ x. P (Err x)) (sym h) (failed refl)
by_stop P (Err f) stop.Memory h failed lacking = subst (λ x. P (Err x)) (sym h) (lacking refl)

pub by_fault : {T : Type 0} (P : Result T RunFault → Type 0) (r : Result T RunFault) (e : RunFault) → IsErrAnd r (λ f. f ≡ e) → P (Err e) → P r
by_fault P (Ok y) e h is = absurd h
by_fault P (Err f) e h is = subst (λ x. P (Err x)) (sym h) is

pub lacked : {T : Type 0} (r : Result T RunFault) (e : Stop) → IsErrAnd r (λ f. f ≡ of_stop e) → IsErrOf r run.Memory → e ≡ stop.Memory
lacked (Ok y) e h is = absurd h
lacked (Err f) e h is = grind arith

-- one fact where a flag is set, the other where it isn't
pub by_flag : {P Q : Type 0} (b : Bool) → (IsTrue b → P) → (IsFalse b → Q) → P ⊎ Q
by_flag b p q = grind arith
