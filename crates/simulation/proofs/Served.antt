-- A session over a board file, as it was served.
--     IsBegun      how it was opened
--     stopped      a run of its lines ended early
--     IsLeft, left_by      it stands as the lines left it
--     is_served      all was told
--     unanswered      the text after the lines was not told whole
--     served_fault, of_serving      the fault after all was told is one of these
use Rattle.std.{proofs.{Common.{◌≡◌, ◌++◌, ℕ, Bool, true, Result, Ok, Err, Option, None, Some, is_some, IsTrue, refl, inl, inr, sym, ap, ap₂, subst, ◌∙◌, arith}, KnownBytes.Appends-trans}, specs.{Option.ForSome, Io.{StartsWith, KnownBytes.Appends}}}
use Rattle.streams.specs.Ends.{AppendsPart}
use Rattle.model_registers.specs.Apertures.{Apertures}
use Rattle.model_guests.specs.{Text.{Text, lines}, World.{World, IsLawfulWorld}}
use Rattle.model_lines.{specs.Sessions.{SessionNow, driven, at_reset, session_functions, session_protocol}, proofs.HandoverLines.isolated_sessions}
use Rattle.lines.{specs.{declared.{requests.Report.Report, runs.RunFault.RunFault, watching.RunStats.RunStats}, Refusals.{refuses, none_seen, seen_along, IsWatched}, Runs.{Ends, ends, Runs}}, proofs.Parts.{same_end, same_error}}
use Rattle.session.specs.{Files.Declares, Refusals.refusal_in, declared.questions.Question.{Question}}
use Rattle.board_told.specs.{declared.fault.Fault.{Fault, TheVariants.{SetUp, Write, NotInOrder, NotReady, RefusedLine}}, Faults.of_run}
use Rattle.simulation.{specs.{Faults.{IsOfFile, IsToldLast, OnFile}, Serving.{at_first, session_text, left_after, told, counted, report_fault, fault_of_outcome, HasEnded, IsSession, IsServed, Serves, IsOfAnswer, IsOfServing}}, proofs.Begun.runs_from}
use Rattle.lines.specs.declared.runs.RunFault.TheVariants as run
use Rattle.bus_scan.specs.declared.fault.Fault.TheVariants as set_up

abbrev pub IsBegun : Text → SessionNow → Type 0
IsBegun board x = (w : World) × Declares board w × IsLawfulWorld w × (x ≡ driven (at_reset w))

abbrev session_over : {T : Type 0} (board : Text) (x end : SessionNow) (at : Ends) (r : Result T RunFault) → IsBegun board x
    → Runs session_protocol x end at r → IsSession board at r
session_over board x end at r begun ran = record {
  world = begun.0;
  declared = begun.1;
  end = end;
  runs = runs_from session_protocol x (at_first begun.0) end at r begun.3 ran;
  isolated = isolated_sessions begun.0 begun.2.guests.lawful_names;
}

pub stopped : (q : Option Question) (strict : Bool) (seen : RunStats) (board : Text) (x : SessionNow) (at : Ends) (e : RunFault) → IsBegun board x
    → IsWatched session_protocol refusal_in x at (Err e) → Serves {T = Unit {0}} q strict seen board at (Err (of_run e))
stopped q strict seen board x at e begun w =
    by_fault e (session_over board x w.end at (Err e) begun (same_error (SessionNow × RunStats) (Unit {0}) session_protocol x w.end at e w.runs))
  where
    by_fault : (e : RunFault) → IsSession {T = Unit {0}} board at (Err e) → Serves {T = Unit {0}} q strict seen board at (Err (of_run e))
    by_fault run.Read s = s
    by_fault run.Write s = inl s
    by_fault run.Memory s = inl s

-- ---- after the lines

pub record IsLeft (board : Text) (at : Ends) (a : Apertures) (y : SessionNow × RunStats) : Type 0 where
  pub session : HasEnded board at
  pub left : y.0 ≡ session.end
  pub apertures : a ≡ session.world.apertures
  pub refused : ForSome at.script (λ s. y.1.refused ≡ refuses session_protocol refusal_in (at_first session.world) (lines s))
  pub seen : ForSome at.script (λ s. y.1 ≡ seen_along session_protocol refusal_in (at_first session.world) (lines s) none_seen)

pub left_by : (board : Text) (x : SessionNow) (at : Ends) (a : Apertures) (y : SessionNow × RunStats) (begun : IsBegun board x) → a ≡ begun.0.apertures
    → IsWatched session_protocol refusal_in x at (Ok y) → IsLeft board at a y
left_by board x at a y begun same w = record {
  session = session_over board x w.end at (Ok tt) begun (same_end (SessionNow × RunStats) (Unit {0}) session_protocol x w.end at y tt w.runs);
  left = w.left;
  apertures = same;
  refused = λ s known. w.refused s known ∙ ap (λ z. refuses session_protocol refusal_in z (lines s)) begun.3;
  seen = λ s known. w.seen s known ∙ ap (λ z. seen_along session_protocol refusal_in z (lines s) none_seen) begun.3;
}

-- what is told and counted of the session that was left is so of the one after the lines
after_lines_told : {A : Type 0} (f : Apertures → SessionNow → A) {board : Text} {at : Ends} {a : Apertures} {y : SessionNow × RunStats} (l : IsLeft board at a y)
    → (s : Text) → at.script ≡ Some s → f a y.0 ≡ f l.session.world.apertures (left_after l.session.world (lines s))
after_lines_told f l s known = ap₂ f l.apertures (l.left ∙ l.session.runs.events s known)

pub is_served : (q : Option Question) (strict : Bool) (board : Text) (a : Apertures) (n : ℕ) (script unread old mid mid_flushed new flushed : Option Text) (y : SessionNow × RunStats)
    → IsLeft board (ends script unread old mid mid_flushed) a y → Appends mid new (told q a (session_functions y.0)) → n ≡ counted q a (session_functions y.0)
    → (mid_flushed ≡ mid → flushed ≡ new) → IsServed q strict (fault_of_outcome q strict y.1.refused n) y.1 board (ends script unread old new flushed)
is_served q strict board a n script unread old mid mid_flushed new flushed y l appended counts all =
    let o = l.session in
    record {
      told = record {
        world = o.world;
        declared = o.declared;
        read = o.runs.read;
        written = λ s known. subst (λ (t : Text). Appends old new (session_text o.world (lines s) ++ t)) (after_lines_told (λ b z. told q b (session_functions z)) l s known)
            (Appends-trans old mid new (session_text o.world (lines s)) (told q a (session_functions y.0)) (o.runs.output s known) appended);
        flushed = all o.runs.flushed;
        isolated = o.isolated;
      };
      fault = λ s known. sym (ap₂ (λ (r : Bool) (m : ℕ). fault_of_outcome q strict r m) (l.refused s known)
          (counts ∙ after_lines_told (λ b z. counted q b (session_functions z)) l s known));
      watched = l.seen;
    }

pub unanswered : (q : Option Question) (strict : Bool) (seen : RunStats) (board : Text) (a : Apertures) (f : Fault) (script unread old mid mid_flushed new flushed : Option Text) (y : SessionNow × RunStats)
    → IsLeft board (ends script unread old mid mid_flushed) a y → IsOfAnswer f → IsTrue (is_some q)
    → (f ≡ Write → AppendsPart mid new (told q a (session_functions y.0))) → (f ≡ SetUp set_up.Memory → (new ≡ mid) × (flushed ≡ mid_flushed))
    → Serves {T = Unit {0}} q strict seen board (ends script unread old new flushed) (Err f)
unanswered q strict seen board a Write script unread old mid mid_flushed new flushed y l of asked stops readiness_issues =
    let o = l.session in
    let last = stops refl in
    inr (record {
      asked = asked;
      world = o.world;
      declared = o.declared;
      read = o.runs.read;
      part = last.0;
      begins = λ s known. subst (λ (t : Text). StartsWith t last.0) (after_lines_told (λ b z. told q b (session_functions z)) l s known) last.1;
      written = λ s known. Appends-trans old mid new (session_text o.world (lines s)) last.0 (o.runs.output s known) last.2;
    })
unanswered q strict seen board a (SetUp s) script unread old mid mid_flushed new flushed y l of asked stops readiness_issues = grind arith
unanswered q strict seen board a _ script unread old mid mid_flushed new flushed y l of asked stops readiness_issues = absurd of

-- ---- the fault that is told last

reported : (r : Report) (strict : Bool) (f : Fault) → report_fault r strict ≡ Some f → IsToldLast f
reported r strict f is = grind arith

pub told_last : (q : Option Question) (strict refused : Bool) (n : ℕ) (f : Fault) → fault_of_outcome q strict refused n ≡ Some f → IsToldLast f
told_last q true true n f is = subst IsToldLast {x = RefusedLine} (let same : RefusedLine ≡ f = cc in same) tt
told_last None strict refused n f is = grind arith
told_last (Some q) strict refused n f is = grind (arith, reported)

pub served_fault : (q : Option Question) (strict refused : Bool) (n : ℕ) (seen : RunStats) (board : Text) (at : Ends) (f : Fault) → fault_of_outcome q strict refused n ≡ Some f
    → IsServed q strict (fault_of_outcome q strict refused n) seen board at → Serves {T = Unit {0}} q strict seen board at (Err f)
served_fault q strict refused n seen board at f is served = grind (arith, told_last)

pub no_file : (P : ℕ → Type 0) (f : Fault) → IsToldLast f → OnFile P f × (IsOfFile f → ⊥)
no_file P RefusedLine last = (tt, λ of. of)
no_file P NotInOrder last = (tt, λ of. of)
no_file P NotReady last = (tt, λ of. of)
no_file P _ last = absurd last

of_report : (q : Question) (strict : Bool) (f : Fault) → report_fault q.report strict ≡ Some f → IsOfServing (Some q) strict f
of_report q strict f is = grind arith

pub of_serving : (q : Option Question) (strict refused : Bool) (n : ℕ) (f : Fault) → fault_of_outcome q strict refused n ≡ Some f → IsOfServing q strict f
of_serving q true true n f is = grind arith
of_serving None strict refused n f is = grind arith
of_serving (Some q) strict refused n f is = grind (arith, of_report)
