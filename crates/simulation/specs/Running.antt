-- The effect of running a script on the board of a board file.
--     IsRun board at result      what a run did in the file's world; guests are isolated there
--     HasRun strict refused seen board at      all lines were read, and what they write was written and flushed; if `strict`,
--         this is whether one was refused, and this was seen of them
--     RunsAs strict seen board at result      what was done, by how it ended: if `strict`, a refused line is a fault
use Rattle.std.specs.{Prelude.{◌≡◌, ◌&&◌, Bool, true, false, Result, Ok, Err, IsTrue}, Option.ForSome}
use Rattle.model_guests.specs.{Text.{Text, lines}, Grammar.has_name, World.{World, names}, WorldNow.{WorldNow, world_protocol}}
use Rattle.model_handoff.specs.AfterSetUp.{world_at_first, IsIsolated}
use Rattle.lines.specs.{declared.{runs.RunFault.RunFault, watching.RunStats.RunStats}, Runs.{Ends, Runs}, Refusals.{refuses, none_seen, seen_along}}
use Rattle.session.specs.Files.{IsSetUp}
use Rattle.board_told.specs.declared.fault.Fault.{Fault, TheVariants.RefusedLine}
use Rattle.simulation.specs.Faults.{OnRun}
use Rattle.script.specs.Refusals.{refusal_in}

-- the replies to each guest are those of its own functions, as lone register files, to its own lines and the moves that
-- touch it
pub record IsRun {T : Type 0} (board : Text) (at : Ends) (result : Result T RunFault) : Type 0 where
  pub world : World
  pub set_up : IsSetUp board world
  pub end : WorldNow
  pub runs : Runs world_protocol (world_at_first world) end at result
  pub isolated : (name script : Text) → IsTrue (has_name (names world) name) → IsIsolated world name script

pub record HasRun (strict refused : Bool) (seen : RunStats) (board : Text) (at : Ends) : Type 0 where
  pub run : IsRun {T = Unit {0}} board at (Ok tt)
  pub answers : ForSome at.script (λ s. (strict && refuses world_protocol refusal_in (world_at_first run.world) (lines s)) ≡ refused)
  pub watched :
      ForSome at.script (λ s. seen ≡ seen_along world_protocol refusal_in (world_at_first run.world) (lines s) none_seen)

abbrev pub RunsAs : {T : Type 0} → Bool → RunStats → Text → Ends → Result T Fault → Type 0
RunsAs strict seen board at (Ok x) = HasRun strict false seen board at
RunsAs strict seen board at (Err RefusedLine) = HasRun strict true seen board at
RunsAs {T} strict seen board at (Err other) = OnRun {T = T} (IsRun board at) (Err other)
