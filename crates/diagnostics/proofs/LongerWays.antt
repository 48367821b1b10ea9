-- Ways that go on by one more step.
use Rattle.std.proofs.Common.{◌≡◌, List, [], ◌∷◌, ◌++◌, Result, Ok, Err, OnOk, append_assoc, arith}
use Rattle.diagnostics.specs.{declared.steps.Step.Step, Places.GoesOn}

pub on_ok-step : {T E : Type 0} (r : Result T E) (way pushed longer : List Step) (s : Step) → pushed ≡ way ++ s ∷ [] → OnOk r (GoesOn pushed longer) → OnOk r (GoesOn way longer)
on_ok-step (Ok x) way pushed longer s is_pushed goes = grind (arith, append_assoc)
on_ok-step (Err e) way pushed longer s is_pushed goes = tt
