-- What a session over the board of a board file does and tells: firmware's lines over the board at reset, questions among
-- them, the handover of the board to the guests of the file, and once all lines ran a text that answers a question of the
-- registers as they stand then.
--     at_first w      the session before its first line
--     session_text w ls, left_after w ls      what the lines write, and the session as they leave it
--     IsSession board at result      what a run of lines did over the board of the file; once the board is given, guests are
--         isolated
--     HasEnded board at      all lines of such a run were read, and what they write was written and flushed
--     told q a fs, counted q a fs      the text that answers a question of some functions, by these apertures, where one is
--         asked, and how many problems and readiness issues it counts
--     report_fault r strict      the fault of a report that counts something
--     fault_of_outcome q strict refused n      the fault of who was told all, if there is one: by whether a line was refused, and
--         n problems and readiness issues
--     IsTold q board at      all lines were read, and the texts were written and flushed
--     IsToldInPart q board at      so was all of what the lines write, and a beginning of the text that a question asks for
--     IsServed q strict last seen board at      all was told, this is the fault after it, if there is one, and this was seen of
--         the lines
--     Serves q strict seen board at result      what was done, by how it ended
--     IsOfAnswer f      memory is out for the text, or it isn't written whole
--     IsOfServing q strict f      a fault by which it can end
use Rattle.std.specs.{Prelude.{◌≡◌, ◌⊎◌, ◌++◌, ◌&&◌, ℕ, Bool, true, List, [], if◌then◌else◌, Option, None, Some, Result, Ok, Err, is_some, nat_lt, IsTrue, ⊤}, Option.ForSome, Io.{StartsWith, KnownBytes.{Appends, IsAtEnd}}}
use Rattle.model_registers.specs.Apertures.{Apertures}
use Rattle.model_board.specs.State.{BoardFunction}
use Rattle.model_guests.specs.{Text.{Text, lines}, World.World, LineRuns.{output, after_lines}}
use Rattle.model_lines.specs.{Sessions.{SessionNow, driven, at_reset, session_protocol, session_functions}, SessionLaws.IsolatedFrom}
use Rattle.lines.specs.{declared.{requests.Report.{Report, TheVariants.{Audit, Ready}}, runs.RunFault.RunFault, watching.RunStats.RunStats}, Refusals.{refuses, none_seen, seen_along}, Runs.{Ends, Runs}}
use Rattle.session.specs.{Files.Declares, Questions.{told_by, counted_by}, Refusals.refusal_in, declared.questions.Question.{Question}}
use Rattle.board_told.specs.declared.fault.Fault.{Fault, TheVariants.{SetUp, Read, Write, NotInOrder, NotReady, RefusedLine}}
use Rattle.simulation.specs.Faults.{IsOfSession}
use Rattle.lines.specs.declared.runs.RunFault.TheVariants as run
use Rattle.bus_scan.specs.declared.fault.Fault.TheVariants as set_up

-- ---- the lines

abbrev pub at_first : World → SessionNow
at_first w = driven (at_reset w)

abbrev pub session_text : World → List Text → Text
session_text w ls = output session_protocol (at_first w) ls

abbrev pub left_after : World → List Text → SessionNow
left_after w ls = after_lines session_protocol (at_first w) ls

pub record IsSession {T : Type 0} (board : Text) (at : Ends) (result : Result T RunFault) : Type 0 where
  pub world : World
  pub declared : Declares board world
  pub end : SessionNow
  pub runs : Runs session_protocol (at_first world) end at result
  pub isolated : IsolatedFrom world

abbrev pub HasEnded : Text → Ends → Type 0
HasEnded board at = IsSession {T = Unit {0}} board at (Ok tt)

-- ---- the text after them

abbrev pub told : Option Question → Apertures → List BoardFunction → Text
told None a fs = []
told (Some q) a fs = told_by q a fs

abbrev pub counted : Option Question → Apertures → List BoardFunction → ℕ
counted None a fs = 0
counted (Some q) a fs = counted_by q a fs

abbrev pub told_after : Option Question → World → List Text → Text
told_after q w ls = told q w.apertures (session_functions (left_after w ls))

-- ---- how it ended

abbrev pub report_fault : Report → Bool → Option Fault
report_fault Audit strict = if strict then Some NotInOrder else None
report_fault Ready strict = Some NotReady

abbrev pub fault_by : Option Question → Bool → ℕ → Option Fault
fault_by None strict n = None
fault_by (Some q) strict n = if nat_lt 0 n then report_fault q.report strict else None

abbrev pub fault_of_outcome : Option Question → (strict refused : Bool) → ℕ → Option Fault
fault_of_outcome q strict refused n = if strict && refused then Some RefusedLine else fault_by q strict n

abbrev pub fault_after : Option Question → Bool → World → List Text → Option Fault
fault_after q strict w ls = fault_of_outcome q strict (refuses session_protocol refusal_in (at_first w) ls)
    (counted q w.apertures (session_functions (left_after w ls)))

pub record IsTold (q : Option Question) (board : Text) (at : Ends) : Type 0 where
  pub world : World
  pub declared : Declares board world
  pub read : IsAtEnd at.unread
  pub written : ForSome at.script (λ s. Appends at.before at.after (session_text world (lines s) ++ told_after q world (lines s)))
  pub flushed : at.flushed ≡ at.after
  pub isolated : IsolatedFrom world

pub record IsToldInPart (q : Option Question) (board : Text) (at : Ends) : Type 0 where
  pub asked : IsTrue (is_some q)
  pub world : World
  pub declared : Declares board world
  pub read : IsAtEnd at.unread
  pub part : Text
  pub begins : ForSome at.script (λ s. StartsWith (told_after q world (lines s)) part)
  pub written : ForSome at.script (λ s. Appends at.before at.after (session_text world (lines s) ++ part))

pub record IsServed (q : Option Question) (strict : Bool) (last : Option Fault) (seen : RunStats) (board : Text) (at : Ends)
    : Type 0 where
  pub told : IsTold q board at
  pub fault : ForSome at.script (λ s. fault_after q strict told.world (lines s) ≡ last)
  pub watched :
      ForSome at.script (λ s. seen ≡ seen_along session_protocol refusal_in (at_first told.world) (lines s) none_seen)

-- A write or flush fails among the lines or in the text after them. Memory is out for a line, or for that text once all
-- ran.
abbrev pub Serves : {T : Type 0} → Option Question → Bool → RunStats → Text → Ends → Result T Fault → Type 0
Serves q strict seen board at (Ok x) = IsServed q strict None seen board at
Serves q strict seen board at (Err Read) = IsSession {T = Unit {0}} board at (Err run.Read)
Serves q strict seen board at (Err Write) = IsSession {T = Unit {0}} board at (Err run.Write) ⊎ IsToldInPart q board at
Serves q strict seen board at (Err (SetUp set_up.Memory)) =
    IsSession {T = Unit {0}} board at (Err run.Memory) ⊎ (IsTrue (is_some q) × HasEnded board at)
Serves q strict seen board at (Err RefusedLine) = IsServed q strict (Some RefusedLine) seen board at
Serves q strict seen board at (Err NotInOrder) = IsServed q strict (Some NotInOrder) seen board at
Serves q strict seen board at (Err NotReady) = IsServed q strict (Some NotReady) seen board at
Serves q strict seen board at (Err other) = ⊤

abbrev pub IsOfAnswer : Fault → Type 0
IsOfAnswer Write = ⊤
IsOfAnswer (SetUp s) = s ≡ set_up.Memory
IsOfAnswer _ = ⊥

-- a refused line is a fault, and a problem of an audit, if `strict`
abbrev pub IsOfServing : Option Question → Bool → Fault → Type 0
IsOfServing q strict RefusedLine = strict ≡ true
IsOfServing (Some q) strict NotInOrder = (q.report ≡ Audit) × (strict ≡ true)
IsOfServing (Some q) strict NotReady = q.report ≡ Ready
IsOfServing q strict f = IsOfSession f
