-- A run over one protocol is one over another that is a part of it: what stands beside that tells nothing.
--     IsPart p q part      each line writes the same over the part, and leaves the part of what it leaves
--     runs_of_part      so does a run
--     same_refusals      each line is refused as it is of the part
--     same_error, same_end      how a run ended tells the same whatever it gives
use Rattle.std.{proofs.Common.{arith, ◌≡◌, ◌++◌, ◌||◌, Bool, List, [], ◌∷◌, Option, is_some, Result, Ok, Err, refl, ap, ap₂, ◌∙◌, subst, take}, specs.Io.{StartsWith, KnownBytes.Appends}}
use Rattle.model_guests.specs.{Text.{Text, lines}, LineRuns.{Protocol, output, after_lines, first_output, IsCut, IsStopped}}
use Rattle.lines.specs.{Pieces.{IsStoppedIn, IsLackingIn}, Runs.{Ends, Runs}, declared.runs.RunFault.RunFault, Refusals.{Refusal, refuses}}
use Rattle.lines.specs.declared.runs.RunFault.TheVariants as run

pub record IsPart {S T : Type 0} (p : Protocol S) (q : Protocol T) (part : S → T) : Type 0 where
  pub writes : (s : S) (line : Text) → p.writes s line ≡ q.writes (part s) line
  pub next : (s : S) (line : Text) → part (p.next s line) ≡ q.next (part s) line

pub same_output : {S T : Type 0} {p : Protocol S} {q : Protocol T} {part : S → T} → IsPart p q part → (s : S) (ls : List Text)
    → output p s ls ≡ output q (part s) ls
same_output is s [] = refl
same_output {p = p} {q = q} is s (line ∷ more) =
    ap₂ (λ (a b : Text). a ++ b) (is.writes s line) (same_output is (p.next s line) more ∙ ap (λ t. output q t more) (is.next s line))

pub part_after : {S T : Type 0} {p : Protocol S} {q : Protocol T} {part : S → T} → IsPart p q part → (s : S) (ls : List Text)
    → part (after_lines p s ls) ≡ after_lines q (part s) ls
part_after is s [] = refl
part_after {p = p} {q = q} is s (line ∷ more) = part_after is (p.next s line) more ∙ ap (λ t. after_lines q t more) (is.next s line)

part_events : {S T : Type 0} {p : Protocol S} {q : Protocol T} {part : S → T} → IsPart p q part → (s end : S) (ls : List Text)
    → end ≡ after_lines p s ls → part end ≡ after_lines q (part s) ls
part_events {part = part} is s end ls events = ap part events ∙ part_after is s ls

same_first : {S T : Type 0} {p : Protocol S} {q : Protocol T} {part : S → T} → IsPart p q part → (s : S) (ls : List Text)
    → first_output p s ls ≡ first_output q (part s) ls
same_first is s [] = refl
same_first is s (line ∷ more) = is.writes s line

pub same_refusals : {S T : Type 0} {p : Protocol S} {q : Protocol T} {part : S → T} → IsPart p q part → (f : Refusal S) (g : Refusal T)
    → ((s : S) (line : Text) → f s line ≡ g (part s) line) → (s : S) (ls : List Text) → refuses p f s ls ≡ refuses q g (part s) ls
same_refusals is f g same s [] = refl
same_refusals {p = p} {q = q} is f g same s (line ∷ more) =
    ap₂ (λ (a b : Bool). a || b) (ap is_some (same s line))
    (same_refusals is f g same (p.next s line) more ∙ ap (λ t. refuses q g t more) (is.next s line))

cut_of_part : {S T : Type 0} {p : Protocol S} {q : Protocol T} {part : S → T} → IsPart p q part → (s end : S) {old_rest new_rest old new : Option Text}
    → IsCut p s old_rest new_rest old new end → IsCut q (part s) old_rest new_rest old new (part end)
cut_of_part is s end {old_rest} {new_rest} {old} {new} cut = grind (arith, same_output, part_events)

abbrev stop_of_part : {S T : Type 0} {p : Protocol S} {q : Protocol T} {part : S → T} → IsPart p q part → (s end : S) (ls : List Text) {old new : Option Text}
    → IsStopped p s ls old new end → IsStopped q (part s) ls old new (part end)
stop_of_part {p = p} {q = q} is s end ls {old} {new} stop = record {
  whole = stop.whole;
  rest = stop.rest;
  part = stop.part;
  in_order = stop.in_order;
  begins = subst (λ (t : Text). StartsWith t stop.part)
      (same_first is (after_lines p s stop.whole) stop.rest ∙ ap (λ t. first_output q t stop.rest) (part_after is s stop.whole)) stop.begins;
  written = subst (λ (t : Text). Appends old new (t ++ stop.part)) (same_output is s stop.whole) stop.written;
  events = part_events is s end (stop.whole ++ take 1 stop.rest) stop.events;
}

stopped_of_part : {S T : Type 0} {p : Protocol S} {q : Protocol T} {part : S → T} → IsPart p q part → (s end : S) {script : Text} {old_rest new_rest old new : Option Text}
    → IsStoppedIn p s script old_rest new_rest old new end → IsStoppedIn q (part s) script old_rest new_rest old new (part end)
stopped_of_part is s end {script} stopped = record {
  read = stopped.read;
  consumed = stopped.consumed;
  stop = stop_of_part is s end (lines script) stopped.stop;
  in_time = stopped.in_time;
}

lacking_of_part : {S T : Type 0} {p : Protocol S} {q : Protocol T} {part : S → T} → IsPart p q part → (s end : S) {script : Text} {old_rest new_rest old new : Option Text}
    → IsLackingIn p s script old_rest new_rest old new end → IsLackingIn q (part s) script old_rest new_rest old new (part end)
lacking_of_part is s end {script} {old_rest} {new_rest} {old} {new} lacking = grind (arith, same_output, part_events)

pub runs_of_part : {S T X : Type 0} {p : Protocol S} {q : Protocol T} {part : S → T} → IsPart p q part → (s end : S) (at : Ends) (r : Result X RunFault)
    → Runs p s end at r → Runs q (part s) (part end) at r
runs_of_part is s end at (Ok x) ran = record {
  read = ran.read;
  output = λ script known. subst (Appends at.before at.after) (same_output is s (lines script)) (ran.output script known);
  events = λ script known. part_events is s end (lines script) (ran.events script known);
  flushed = ran.flushed;
}
runs_of_part is s end at (Err run.Read) ran = cut_of_part is s end ran
runs_of_part is s end at (Err run.Write) ran = λ script known. stopped_of_part is s end (ran script known)
runs_of_part is s end at (Err run.Memory) ran = λ script known. lacking_of_part is s end (ran script known)

-- ---- what a run gives

-- an error is one whatever the result would have been
pub same_error : (A B : Type 0) {S : Type 0} (p : Protocol S) (s end : S) (at : Ends) (e : RunFault) → Runs {T = A} p s end at (Err e) → Runs {T = B} p s end at (Err e)
same_error A B p s end at run.Read runs = runs
same_error A B p s end at run.Write runs = runs
same_error A B p s end at run.Memory runs = runs

-- and so is an end of all lines
pub same_end : (A B : Type 0) {S : Type 0} (p : Protocol S) (s end : S) (at : Ends) (x : A) (y : B) → Runs p s end at (Ok x) → Runs p s end at (Ok y)
same_end A B p s end at x y runs = runs
