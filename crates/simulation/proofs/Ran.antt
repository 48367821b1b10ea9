-- What the parts of a run over a board file say, put together.
use Rattle.std.{proofs.Common.{◌≡◌, ◌+◌, ℕ, Result, Ok, Err, refl, sym, subst}, specs.Result.IsErrAnd}
use Rattle.model_guests.specs.WorldNow.{world_protocol}
use Rattle.model_handoff.specs.Changes.{MachineNow, machine_protocol}
use Rattle.lines.{specs.{declared.runs.RunFault.RunFault, Faults.{read_failures_of, write_failures_of}, Runs.{Ends, Runs}}, proofs.Parts.{IsPart, runs_of_part}}
use Rattle.board_told.specs.{declared.fault.Fault.Fault, Faults.{of_open, of_run}}
use Rattle.session.specs.declared.opening.OpenFault.{OpenFault}
use Rattle.simulation.specs.Faults.{read_faults, write_faults, OnFile, OnSetUp}
use Rattle.lines.specs.declared.runs.RunFault.TheVariants as run
use Rattle.session.specs.declared.opening.OpenFault.TheVariants as opening
use Rattle.session.specs.Faults as opened

-- the fault that a `?` hands on
pub on_error : {T : Type 0} (P : Result T Fault → Type 0) (r : Result T Fault) (f : Fault) → IsErrAnd r (λ g. g ≡ f) → P (Err f) → P r
on_error P (Ok x) f h p = absurd h
on_error P (Err g) f h p = subst (λ x. P (Err x)) (sym h) p

pub opened_file : (P : ℕ → Type 0) (o : OpenFault) → opened.OnFile P o → OnFile P (of_open o)
opened_file P (opening.File b) said = said
opened_file P (opening.SetUp s) said = tt

pub opened_set_up : (P : ℕ → Type 0) (o : OpenFault) → opened.OnSetUp P o → OnSetUp P (of_open o)
opened_set_up P (opening.File b) said = tt
opened_set_up P (opening.SetUp s) said = said

-- a run over a machine, as one over its world alone: the counts stand beside it
pub world_part : IsPart machine_protocol world_protocol (λ (m : MachineNow). m.world)
world_part = record { writes = λ m line. refl; next = λ m line. refl }

pub runs_aside : {T : Type 0} (m end : MachineNow) (at : Ends) (r : Result T RunFault) → Runs machine_protocol m end at r → Runs world_protocol m.world end.world at r
runs_aside m end at r ran = runs_of_part world_part m end at r ran

-- such a fault is the reader's, or the writer's, as that of the run is
pub read_again : {T : Type 0} (r : Result T Fault) (e : RunFault) (old new : ℕ)
    → IsErrAnd r (λ f. f ≡ of_run e) → new ≡ old + read_failures_of {T = T} (Err e) → new ≡ old + read_faults r
read_again (Ok x) e old new h count = absurd h
read_again (Err f) run.Read old new h count = rw h count
read_again (Err f) _ old new h count = rw h count

pub written_again : {T : Type 0} (r : Result T Fault) (e : RunFault) (old new : ℕ)
    → IsErrAnd r (λ f. f ≡ of_run e) → new ≡ old + write_failures_of {T = T} (Err e) → new ≡ old + write_faults r
written_again (Ok x) e old new h count = absurd h
written_again (Err f) run.Write old new h count = rw h count
written_again (Err f) _ old new h count = rw h count
