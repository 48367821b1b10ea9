-- How a run ends: what it wrote of the whole script.
use Rattle.std.{proofs.{Common.{◌≡◌, ◌<◌, inl, inr, Bool, List, [], ◌∷◌, ◌++◌, Option, Some, length, take, refl, sym, ap, subst, ◌∙◌, append_assoc, append-nil, arith}, KnownBytes.Appends-trans, Transfers.starts_with_of_append}, specs.Io.{StartsWith, KnownBytes.{Appends, Consumes, IsAtEnd}}}
use Rattle.lists.specs.Elements.{Each}
use Rattle.model_guests.{specs.{Text.{Text, lines, text_of_lines}, LineRuns.{Protocol, output, after_lines, HasNoEnd, IsStopped, IsCut, first_output}}, proofs.{WrittenLines.text_of_lines-append, RunLines.{output_along, after_along, lines_of_pieces}}}
use Rattle.lines.{specs.Pieces.{IsBefore, Reaches, StopsWithin, IsStoppedIn, LacksWithin, IsLackingIn}, proofs.{EndsInPieces.{no_end_along, some_line}, Reaching.text_of_one}}

-- what is left of a known script
consumed : (a b : Option Text) (xs script : Text) → Consumes a b xs → a ≡ Some script → (rest : Text) × (script ≡ xs ++ rest) × (IsAtEnd b → rest ≡ [])
consumed a b xs script taken e = grind arith

-- a script that was read to its end
pub whole_script : (a b : Option Text) (xs script : Text) → Consumes a b xs → IsAtEnd b → a ≡ Some script → xs ≡ script
whole_script a b xs script taken end e = grind (arith, consumed, append-nil)

-- a failed read
pub cut_of : {S : Type 0} {p : Protocol S} {w : S} {old_rest new_rest : Option Text} {text rest : Text} {long : Bool} {old new : Option Text} {end : S}
    → Consumes old_rest new_rest text → Reaches p w text rest long old new end → HasNoEnd rest → IsCut p w old_rest new_rest old new end
cut_of taken r clean = grind (arith, no_end_along)

-- the lines of a text of which whole lines are read
lines_read : (text line after more : Text) (whole : List Text) → Each HasNoEnd whole → HasNoEnd line → text ≡ text_of_lines whole ++ (line ++ 10 ∷ after)
    → lines (text ++ more) ≡ whole ++ line ∷ lines (after ++ more)
lines_read text line after more whole each clean e =
    let order : text ++ more ≡ text_of_lines whole ++ (text_of_lines (line ∷ []) ++ (after ++ more)) =
    ap (λ (t : Text). t ++ more) e ∙ append_assoc (text_of_lines whole) (line ++ 10 ∷ after) more
    ∙ ap (λ (t : Text). text_of_lines whole ++ t) (append_assoc line (10 ∷ after) more ∙ sym (text_of_one line (after ++ more))) in
    ap lines order ∙ lines_of_pieces whole each (text_of_lines (line ∷ []) ++ (after ++ more))
    ∙ ap (λ (ls : List Text). whole ++ ls) (lines_of_pieces (line ∷ []) (clean, tt) (after ++ more))

-- and how the text begins
text_read : (text line after : Text) (whole : List Text) → text ≡ text_of_lines whole ++ (line ++ 10 ∷ after) → StartsWith text (text_of_lines (whole ++ line ∷ []))
text_read text line after whole e = grind (arith, starts_with_of_append, text_of_one, append_assoc, text_of_lines-append)

-- a failed write or flush at a line that LF ends
pub stopped_of : {S : Type 0} {p : Protocol S} {w : S} {old_rest new_rest : Option Text} {text script : Text} {old new : Option Text} {end : S}
    → Consumes old_rest new_rest text → StopsWithin p w text old new end → old_rest ≡ Some script → IsStoppedIn p w script old_rest new_rest old new end
stopped_of {p = p} {w = w} {old_rest} {new_rest} {text} {script} taken s known =
    let left = consumed old_rest new_rest text script taken known in
    record {
      read = text;
      consumed = taken;
      stop = record {
        whole = s.whole;
        rest = s.line ∷ lines (s.after ++ left.0);
        part = s.part;
        in_order = ap lines left.1 ∙ lines_read text s.line s.after left.0 s.whole s.each_line s.last_line s.in_order;
        begins = s.begins;
        written = s.written;
        events = s.events ∙ sym (after_along p w s.whole (s.line ∷ []));
      };
      in_time = inl (text_read text s.line s.after s.whole s.in_order);
    }

-- memory is out for a line that LF ends
pub lacking_of : {S : Type 0} {p : Protocol S} {w : S} {old_rest new_rest : Option Text} {text script : Text} {old new : Option Text} {end : S}
    → Consumes old_rest new_rest text → LacksWithin p w text old new end → old_rest ≡ Some script → IsLackingIn p w script old_rest new_rest old new end
lacking_of {old_rest = old_rest} {new_rest} {text} {script} taken s known =
    let left = consumed old_rest new_rest text script taken known in
    record {
      read = text;
      consumed = taken;
      whole = s.whole;
      line = s.line;
      rest = lines (s.after ++ left.0);
      in_order = ap lines left.1 ∙ lines_read text s.line s.after left.0 s.whole s.each_line s.last_line s.in_order;
      in_time = inl (text_read text s.line s.after s.whole s.in_order);
      written = s.written;
      events = s.events;
    }

-- ---- what is left at the end is the last line

last_lines : {S : Type 0} {p : Protocol S} {w : S} {text rest : Text} {long : Bool} {old mid : Option Text} {end : S}
    → (r : Reaches p w text rest long old mid end) → lines text ≡ r.whole ++ lines (r.before ++ rest)
last_lines {rest = rest} r = ap lines r.in_order ∙ lines_of_pieces r.whole r.each_line (r.before ++ rest)

stopped_on : {S : Type 0} {p : Protocol S} {w : S} {text rest : Text} {long : Bool} {old mid new : Option Text} {end last : S}
    → (r : Reaches p w text rest long old mid end) → IsStopped p end (lines (r.before ++ rest)) mid new last → IsStopped p w (lines text) old new last
stopped_on {S} {p = p} {w = w} {old = old} {mid = mid} {new = new} {end = end} r s =
    let world : after_lines p end s.whole ≡ after_lines p w (r.whole ++ s.whole) =
    ap (λ (e : S). after_lines p e s.whole) r.events ∙ sym (after_along p w r.whole s.whole) in
    record {
      whole = r.whole ++ s.whole;
      rest = s.rest;
      part = s.part;
      in_order = last_lines r ∙ ap (λ (ls : List Text). r.whole ++ ls) s.in_order ∙ sym (append_assoc r.whole s.whole s.rest);
      begins = subst (λ (e : S). StartsWith (first_output p e s.rest) s.part) world s.begins;
      written = subst (Appends old new) (sym (append_assoc (output p w r.whole) (output p end s.whole) s.part)
          ∙ ap (λ (t : Text). t ++ s.part) (ap (λ (e : S). output p w r.whole ++ output p e s.whole) r.events ∙ sym (output_along p w r.whole s.whole)))
          (Appends-trans old mid new (output p w r.whole) (output p end s.whole ++ s.part) r.written s.written);
      events = s.events ∙ ap (λ (e : S). after_lines p e (s.whole ++ take 1 s.rest)) r.events ∙ sym (after_along p w r.whole (s.whole ++ take 1 s.rest))
          ∙ ap (after_lines p w) (sym (append_assoc r.whole s.whole (take 1 s.rest)));
    }

module _ {S : Type 0} {p : Protocol S} {w : S} (old_rest new_rest : Option Text) {text rest script : Text} {long : Bool} {old mid : Option Text} {end : S}
    (taken : Consumes old_rest new_rest text) (done : IsAtEnd new_rest) (r : Reaches p w text rest long old mid end) (clean : HasNoEnd rest) (known : old_rest ≡ Some script) where
  all_read : text ≡ script
  all_read = whole_script old_rest new_rest text script taken done known

  all_lines : lines script ≡ r.whole ++ lines (r.before ++ rest)
  all_lines = ap lines (sym all_read) ∙ last_lines r

  last_clean : HasNoEnd (r.before ++ rest)
  last_clean = no_end_along r.before rest r.clean clean

  -- where the last line's answer is known of whatever was passed over of it
  pub output_on : (new : Option Text) → ((before : Text) → IsBefore long before → HasNoEnd (before ++ rest) → Appends mid new (output p end (lines (before ++ rest))))
      → Appends old new (output p w (lines script))
  output_on new written =
      subst (Appends old new)
      (ap (λ e. output p w r.whole ++ output p e (lines (r.before ++ rest))) r.events ∙ sym (output_along p w r.whole (lines (r.before ++ rest))) ∙ ap (output p w) (sym all_lines))
      (Appends-trans old mid new (output p w r.whole) (output p end (lines (r.before ++ rest))) r.written (written r.before r.passed last_clean))

  pub after_on : {last : S} → ((before : Text) → IsBefore long before → HasNoEnd (before ++ rest) → last ≡ after_lines p end (lines (before ++ rest))) → last ≡ after_lines p w (lines script)
  after_on events = grind (arith, last_clean, after_along, all_lines)

  -- a failed write or flush at the end of the script
  pub stopped_last : {new : Option Text} {last : S} → ((before : Text) → IsBefore long before → HasNoEnd (before ++ rest) → IsStopped p end (lines (before ++ rest)) mid new last)
      → IsStoppedIn p w script old_rest new_rest old new last
  stopped_last {new} {last} s = record {
    read = text;
    consumed = taken;
    stop = subst (λ (t : Text). IsStopped p w (lines t) old new last) all_read (stopped_on r (s r.before r.passed last_clean));
    in_time = inr done;
  }

  -- memory is out for the last line
  pub lacking_last : ((before : Text) → IsBefore long before → 0 < length (before ++ rest)) → IsLackingIn p w script old_rest new_rest old mid end
  lacking_last some = grind (arith, consumed, all_lines, some_line, last_clean)

-- all lines were answered, but what they wrote was not flushed
pub stopped_after : {S : Type 0} (p : Protocol S) (w : S) (ls : List Text) (old new : Option Text) (end : S)
    → Appends old new (output p w ls) → end ≡ after_lines p w ls → IsStopped p w ls old new end
stopped_after {S} p w ls old new end written events = record {
  whole = ls;
  rest = [];
  part = [];
  in_order = sym (append-nil ls);
  begins = refl;
  written = subst (Appends old new) (sym (append-nil (output p w ls))) written;
  events = events ∙ sym (ap (after_lines p w) (append-nil ls));
}

-- the answer to a last line was not written whole
stopped_one : {S : Type 0} (p : Protocol S) (w : S) (line part : Text) (old new : Option Text) (end : S)
    → StartsWith (p.writes w line) part → Appends old new part → end ≡ p.next w line → IsStopped p w (line ∷ []) old new end
stopped_one {S} p w line part old new end begins written events = record {
  whole = [];
  rest = line ∷ [];
  part = part;
  in_order = refl;
  begins = begins;
  written = written;
  events = events;
}

-- ---- one line

pub last_output : {S : Type 0} (p : Protocol S) (w : S) (line : Text) → HasNoEnd line → 0 < length line → p.writes w line ≡ output p w (lines line)
last_output {S} p w line clean some = sym (append-nil (p.writes w line)) ∙ ap (output p w) (sym (some_line line clean some))

pub last_after : {S : Type 0} (p : Protocol S) (w : S) (line : Text) → HasNoEnd line → 0 < length line → p.next w line ≡ after_lines p w (lines line)
last_after {S} p w line clean some = ap (after_lines p w) (sym (some_line line clean some))

pub last_stopped : {S : Type 0} (p : Protocol S) (w : S) (line part : Text) (old new : Option Text) (end : S) → HasNoEnd line → 0 < length line
    → StartsWith (p.writes w line) part → Appends old new part → end ≡ p.next w line → IsStopped p w (lines line) old new end
last_stopped {S} p w line part old new end clean some begins written events = grind (arith, some_line, stopped_one)
