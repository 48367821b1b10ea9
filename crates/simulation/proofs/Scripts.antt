-- A run of a script over a board file, where a refused line may be a fault.
--     none_ran, stopped, has_run      how it ended: before any line, with a fault of the run, and after all lines
--     plainly, plain_faults      so too where a refused line is none
use Rattle.std.{specs.Prelude.IfErr, proofs.Common.{◌≡◌, ◌&&◌, Bool, true, false, List, [], ◌∷◌, Result, Ok, Err, refl, sym, ap, ◌∙◌}}
use Rattle.model_guests.specs.{Text.{Text, lines}, WorldNow.world_protocol}
use Rattle.model_handoff.specs.Changes.{BeginsIn, MachineNow, machine_protocol}
use Rattle.lines.{specs.{Runs.Ends, declared.{runs.RunFault.RunFault, watching.RunStats.RunStats}, Refusals.{refuses, none_seen, with_line, seen_along, IsWatched}}, proofs.Parts.{same_end, same_error, same_refusals}}
use Rattle.session.specs.{Files.IsOpened, declared.opening.OpenFault.OpenFault}
use Rattle.board_told.specs.{declared.fault.Fault.{Fault, TheVariants.{Read, Write, RefusedLine}}, Faults.{of_open, of_run}}
use Rattle.simulation.{specs.{Faults.{IsOfRun, IsOfRunAs, OnRun}, Running.{HasRun, IsRun, RunsAs}}, proofs.{Begun.is_run, Ran.world_part}}
use Rattle.script.specs.Refusals.{refusal_in, refusal_on_machine}
use Rattle.lines.specs.declared.runs.RunFault.TheVariants as run
use Rattle.session.specs.declared.opening.OpenFault.TheVariants as opening

-- what is seen of lines over a machine is so over its world
seen_aside : (m : MachineNow) (ls : List Text) (x : RunStats)
    → seen_along machine_protocol refusal_on_machine m ls x ≡ seen_along world_protocol refusal_in m.world ls x
seen_aside m [] x = refl
seen_aside m (line ∷ more) x =
    seen_aside (machine_protocol.next m line) more (with_line line (refusal_on_machine m line) x)

pub none_ran : (strict : Bool) (x : RunStats) (board : Text) (at : Ends) (o : OpenFault) → RunsAs {T = Unit {0}} strict x board at (Err (of_open o))
none_ran strict x board at (opening.File b) = tt
none_ran strict x board at (opening.SetUp s) = tt

pub stopped : (strict : Bool) (x : RunStats) (board : Text) (m : MachineNow) (at : Ends) (e : RunFault) → BeginsIn (IsOpened board) m
    → IsWatched machine_protocol refusal_on_machine m at (Err e) → RunsAs {T = Unit {0}} strict x board at (Err (of_run e))
stopped strict x board m at e opened w = by_fault e (is_run board m w.end at (Err e) opened (same_error (MachineNow × RunStats) (Unit {0}) machine_protocol m w.end at e w.runs))
  where
    by_fault : (e : RunFault) → IsRun {T = Unit {0}} board at (Err e) → RunsAs {T = Unit {0}} strict x board at (Err (of_run e))
    by_fault run.Read ran = ran
    by_fault run.Write ran = ran
    by_fault run.Memory ran = tt

pub has_run : (strict refused : Bool) (board : Text) (m : MachineNow) (at : Ends) (y : MachineNow × RunStats) → BeginsIn (IsOpened board) m
    → IsWatched machine_protocol refusal_on_machine m at (Ok y) → (strict && y.1.refused) ≡ refused → HasRun strict refused y.1 board at
has_run strict refused board m at y opened w is = record {
  run = is_run board m w.end at (Ok tt) opened (same_end (MachineNow × RunStats) (Unit {0}) machine_protocol m w.end at y tt w.runs);
  answers = λ s known.
      ap (λ b. strict && b)
      (ap (λ z. refuses world_protocol refusal_in z (lines s)) (sym opened.world.begins)
      ∙ sym (same_refusals world_part refusal_on_machine refusal_in (λ n line. refl) m (lines s))
      ∙ sym (w.refused s known))
      ∙ is;
  watched = λ s known. w.seen s known ∙ seen_aside m (lines s) none_seen
      ∙ ap (λ z. seen_along world_protocol refusal_in z (lines s) none_seen) opened.world.begins;
}

pub plainly : (x : RunStats) (board : Text) (at : Ends) (r : Result (Unit {0}) Fault) → RunsAs false x board at r → OnRun (IsRun board at) r
plainly x board at (Ok y) h = h.run
plainly x board at (Err Read) h = h
plainly x board at (Err Write) h = h
plainly x board at (Err _) h = tt

plain_fault : (f : Fault) → IsOfRunAs false f → IsOfRun f
plain_fault RefusedLine h = absurd (let wrong : false ≡ true = h in cc)
plain_fault _ h = h

pub plain_faults : {T : Type 0} (r : Result T Fault) → IfErr r (IsOfRunAs false) → IfErr r IsOfRun
plain_faults (Ok x) h = tt
plain_faults (Err f) h = plain_fault f h
