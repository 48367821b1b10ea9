-- What a run of lines says of the board file over whose board it began.
--     runs_from, is_run      a run from where it begins, as in the world of the file
use Rattle.std.proofs.Common.{◌≡◌, Result, subst}
use Rattle.model_guests.specs.{Text.Text, LineRuns.Protocol, WorldNow.world_protocol}
use Rattle.lines.specs.{declared.runs.RunFault.RunFault, Runs.{Ends, Runs}}
use Rattle.model_handoff.{specs.{AfterSetUp.world_at_first, Changes.{MachineNow, BeginsIn, machine_protocol}}, proofs.AfterSetUp.set_up_isolates}
use Rattle.simulation.{specs.Running.IsRun, proofs.Ran.runs_aside}
use Rattle.session.specs.Files.{IsOpened}

pub runs_from : {S T : Type 0} (p : Protocol S) (s first end : S) (at : Ends) (result : Result T RunFault) → s ≡ first → Runs p s end at result → Runs p first end at result
runs_from p s first end at result begins runs = subst (λ x. Runs p x end at result) begins runs

-- a run over the opened world of the file
abbrev pub is_run : {T : Type 0} (board : Text) (m end : MachineNow) (at : Ends) (result : Result T RunFault)
    → BeginsIn (IsOpened board) m → Runs machine_protocol m end at result → IsRun board at result
is_run board m end at result opened runs =
    let o = opened.world in
    record {
      world = o.world;
      set_up = o.set_up;
      end = end.world;
      runs = runs_from world_protocol m.world (world_at_first o.world) end.world at result o.begins (runs_aside m end at result runs);
      isolated = set_up_isolates o.world o.lawful.guests.lawful_names;
    }
