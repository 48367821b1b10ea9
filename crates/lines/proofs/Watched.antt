-- A run of which it is told what was seen of its lines, as the run that it is, and what it tells.
--     watched_end, watched_early      what a run did, by how it ended
use Rattle.std.{proofs.Common.{◌≡◌, ◌||◌, ℕ, Bool, true, false, List, [], ◌∷◌, Option, Some, None, Result, Ok, Err, is_some, refl, sym, subst, ap, ◌∙◌, arith}, specs.{Option.ForSome, Result.IsErrAnd}}
use Rattle.model_guests.specs.{Text.{Text, lines}, LineRuns.{Protocol, after_lines}}
use Rattle.lines.{specs.{declared.{runs.RunFault.RunFault, watching.{RunStats.RunStats, Counted.Counted}}, Runs.{Ends, Runs}, Refusals.{Refusal, refuses, with_line, seen_along, none_seen, watched, IsWatched}}, proofs.Parts.{IsPart, runs_of_part, same_end, same_error}}

server_part : {S : Type 0} (p : Protocol S) (f : Refusal S) → IsPart (watched p f) p (λ (w : Counted S). w.server)
server_part p f = record { writes = λ w line. refl; next = λ w line. refl }

seen_part : {S : Type 0} (p : Protocol S) (f : Refusal S) (w : Counted S) (ls : List Text)
    → (after_lines (watched p f) w ls).seen ≡ seen_along p f w.server ls w.seen
seen_part p f w [] = refl
seen_part p f w (line ∷ more) = seen_part p f ((watched p f).next w line) more

-- a line was refused before, or this one is
refused_by : (line : Text) (n : Option ℕ) (x : RunStats) → (with_line line n x).refused ≡ (x.refused || is_some n)
refused_by line None x = grind arith
refused_by line (Some n) x = grind arith

or_all : (a b c : Bool) → ((a || b) || c) ≡ (a || (b || c))
or_all true b c = refl
or_all false b c = refl

or_none : (a : Bool) → a ≡ (a || false)
or_none true = refl
or_none false = refl

refused_along : {S : Type 0} (p : Protocol S) (f : Refusal S) (s : S) (ls : List Text) (x : RunStats)
    → (seen_along p f s ls x).refused ≡ (x.refused || refuses p f s ls)
refused_along p f s [] x = or_none x.refused
refused_along p f s (line ∷ more) x =
    refused_along p f (p.next s line) more (with_line line (f s line) x)
    ∙ ap (λ (b : Bool). b || refuses p f (p.next s line) more) (refused_by line (f s line) x)
    ∙ or_all x.refused (is_some (f s line)) (refuses p f (p.next s line) more)

abbrev beginning : {S : Type 0} → S → RunStats → Counted S
beginning s x = record { server = s; seen = x }

pub watched_end : {S : Type 0} (p : Protocol S) (f : Refusal S) (s : S) (x : RunStats) (end : Counted S) (at : Ends) → x ≡ none_seen
    → Runs {T = Unit {0}} (watched p f) (beginning s x) end at (Ok tt) → IsWatched p f s at (Ok (end.server, end.seen))
watched_end {S} p f s x end at none ran =
    let seen : ForSome at.script (λ script. end.seen ≡ seen_along p f s (lines script) none_seen) = λ script known.
    ap (λ (w : Counted S). w.seen) (ran.events script known)
    ∙ seen_part p f (beginning s x) (lines script)
    ∙ ap (λ y. seen_along p f s (lines script) y) none in
    record {
      end = end.server;
      runs = same_end (Unit {0}) (S × RunStats) p s end.server at tt (end.server, end.seen) (runs_of_part {X = Unit {0}} (server_part p f) (beginning s x) end at (Ok tt) ran);
      left = refl;
      refused = λ script known. ap (λ (x : RunStats). x.refused) (seen script known) ∙ refused_along p f s (lines script) none_seen;
      seen = seen;
    }

-- the fault that a `?` hands on
pub watched_early : {S : Type 0} (p : Protocol S) (f : Refusal S) (s : S) (x : RunStats) (end : Counted S) (at : Ends) (r : Result (S × RunStats) RunFault) (e : RunFault)
    → IsErrAnd r (λ f. f ≡ e) → Runs {T = Unit {0}} (watched p f) (beginning s x) end at (Err e) → IsWatched p f s at r
watched_early p f s x end at (Ok y) e h ran = absurd h
watched_early {S} p f s x end at (Err fault) e h ran = subst (λ x. IsWatched p f s at (Err x)) (sym h) (record {
  end = end.server;
  runs = same_error (Unit {0}) (S × RunStats) p s end.server at e (runs_of_part {X = Unit {0}} (server_part p f) (beginning s x) end at (Err e) ran);
  left = tt;
  refused = tt;
  seen = tt;
})
