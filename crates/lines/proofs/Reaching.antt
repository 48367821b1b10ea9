-- How runs over pieces are put together.
use Rattle.std.{proofs.{Common.{◌≡◌, ◌<◌, Bool, false, List, [], ◌∷◌, ◌++◌, Option, length, refl, sym, ap, subst, ◌∙◌, append_assoc, append-nil, length-append, arith}, KnownBytes.{Appends-trans, Appends-nil, Appends-kept}, Transfers.starts_with_of_eq}, specs.Io.{StartsWith, KnownBytes.{Appends, Keeps}}}
use Rattle.lists.proofs.EachLemmas.{each_append, each_parts}
use Rattle.model_guests.{specs.{Text.{Text, text_of_lines}, LineRuns.{Protocol, output, after_lines, HasNoEnd}}, proofs.{WrittenLines.text_of_lines-append, RunLines.{output_along, after_along}}}
use Rattle.lines.{specs.Pieces.{IsBefore, Reaches, StopsWithin, LacksWithin}, proofs.EndsInPieces.{no_end_along, no_end_first}}

-- one line and what comes after it
pub text_of_one : (l rest : Text) → text_of_lines (l ∷ []) ++ rest ≡ l ++ 10 ∷ rest
text_of_one l rest = ap (λ (t : Text). t ++ rest) (append-nil (l ++ 10 ∷ [])) ∙ append_assoc l (10 ∷ []) rest

-- before anything was read
pub reaches_none : {S : Type 0} (p : Protocol S) (w : S) (old : Option Text) → Reaches p w [] [] false old old w
reaches_none {S} p w old = record {
  whole = [];
  before = [];
  each_line = tt;
  clean = refl;
  passed = refl;
  in_order = refl;
  written = Appends-nil old;
  events = refl;
}

-- a piece at its beginning
pub reaches_first : {S : Type 0} (p : Protocol S) (w : S) (before text : Text) (long : Bool) (old : Option Text) → HasNoEnd before → IsBefore long before
    → Reaches p w (before ++ text) text long old old w
reaches_first {S} p w before text long old clean passed = record {
  whole = [];
  before = before;
  each_line = tt;
  clean = clean;
  passed = passed;
  in_order = refl;
  written = Appends-nil old;
  events = refl;
}

-- more bytes came
pub reaches_more : {S : Type 0} {p : Protocol S} {w : S} {text rest : Text} (more : Text) {long : Bool} {old new : Option Text} {end : S}
    → Reaches p w text rest long old new end → Reaches p w (text ++ more) (rest ++ more) long old new end
reaches_more more r = grind (arith, append_assoc)

-- the next lines ran
pub reaches_on : {S : Type 0} {p : Protocol S} {w : S} {text piece rest : Text} {long next : Bool} {old mid new : Option Text} {end last : S}
    → (r : Reaches p w text piece long old mid end) → Reaches p end (r.before ++ piece) rest next mid new last → Reaches p w text rest next old new last
reaches_on {p = p} r s = grind (arith, each_append, append_assoc, text_of_lines-append, output_along, after_along)

-- memory is out in the next lines
pub lacks_on : {S : Type 0} {p : Protocol S} {w : S} {text piece : Text} {long : Bool} {old mid new : Option Text} {end last : S}
    → (r : Reaches p w text piece long old mid end) → LacksWithin p end (r.before ++ piece) mid new last → LacksWithin p w text old new last
lacks_on {p = p} r s = grind (arith, each_append, append_assoc, text_of_lines-append, output_along, after_along)

-- a failure in the next lines
pub stops_on : {S : Type 0} {p : Protocol S} {w : S} {text piece : Text} {long : Bool} {old mid new : Option Text} {end last : S}
    → (r : Reaches p w text piece long old mid end) → StopsWithin p end (r.before ++ piece) mid new last → StopsWithin p w text old new last
stops_on {S} {p = p} {w = w} {end = end} r s =
    let world : after_lines p end s.whole ≡ after_lines p w (r.whole ++ s.whole) =
    ap (λ (e : S). after_lines p e s.whole) r.events ∙ sym (after_along p w r.whole s.whole) in
    grind (arith, each_append, append_assoc, text_of_lines-append, output_along)

-- one more line ran
pub reaches_line : {S : Type 0} {p : Protocol S} {w : S} {text piece after : Text} (line : Text) {long : Bool} {old mid new : Option Text} {end last : S} {P : Type 0}
    → piece ≡ line ++ 10 ∷ after → (r : Reaches p w text piece long old mid end) → HasNoEnd line
    → ((before : Text) → IsBefore long before → Appends mid new (p.writes end (before ++ line)))
    → ((before : Text) → IsBefore long before → last ≡ p.next end (before ++ line))
    → (s : Reaches p w text after false old new last) × (P → 0 < length s.whole)
reaches_line {S} {p = p} {w = w} {text = text} {after = after} line {old = old} {mid = mid} {new = new} {end = end} cut r clean written events =
    let one : List Text = (r.before ++ line) ∷ [] in
    let wrote : output p w r.whole ++ p.writes end (r.before ++ line) ≡ output p w (r.whole ++ one) =
    ap (λ (e : S). output p w r.whole ++ p.writes e (r.before ++ line)) r.events
    ∙ ap (λ (t : Text). output p w r.whole ++ t) (sym (append-nil (p.writes (after_lines p w r.whole) (r.before ++ line))))
    ∙ sym (output_along p w r.whole one) in
    let order : text ≡ text_of_lines (r.whole ++ one) ++ after =
    r.in_order ∙ ap (λ (t : Text). text_of_lines r.whole ++ t) (ap (λ (t : Text). r.before ++ t) cut ∙ sym (append_assoc r.before line (10 ∷ after)) ∙ sym (text_of_one (r.before ++ line) after))
    ∙ sym (append_assoc (text_of_lines r.whole) (text_of_lines one) after) ∙ ap (λ (t : Text). t ++ after) (sym (text_of_lines-append r.whole one)) in
    let some : 0 < length (r.whole ++ one) = omega (arith, length-append r.whole one) in (
      record {
        whole = r.whole ++ one;
        before = [];
        each_line = each_append HasNoEnd r.whole one r.each_line (no_end_along r.before line r.clean clean, tt);
        clean = refl;
        passed = refl;
        in_order = order;
        written = subst (Appends old new) wrote (Appends-trans old mid new (output p w r.whole) (p.writes end (r.before ++ line)) r.written (written r.before r.passed));
        events = events r.before r.passed ∙ ap (λ (e : S). p.next e (r.before ++ line)) r.events ∙ sym (after_along p w r.whole one);
      },
      λ wrote. some,
    )

-- the answer to the next line was not written whole
pub stops_at : {S : Type 0} {p : Protocol S} {w : S} {text piece : Text} (line after part : Text) {long : Bool} {old mid new : Option Text} {end last : S}
    → piece ≡ line ++ 10 ∷ after → (r : Reaches p w text piece long old mid end) → HasNoEnd line
    → StartsWith (p.writes end (r.before ++ line)) part → Appends mid new part → last ≡ p.next end (r.before ++ line)
    → StopsWithin p w text old new last
stops_at line after part cut r clean begins written events = grind (arith, no_end_along, append_assoc)

-- memory is out for the next line
pub lacks_at : {S : Type 0} {p : Protocol S} {w : S} {text piece : Text} (line after : Text) {long : Bool} {old mid new : Option Text} {end : S}
    → piece ≡ line ++ 10 ∷ after → (r : Reaches p w text piece long old mid end) → HasNoEnd line → Keeps mid new → LacksWithin p w text old new end
lacks_at {p = p} {w = w} line after {old = old} {mid = mid} {new = new} cut r clean kept = record {
  whole = r.whole;
  line = r.before ++ line;
  after = after;
  each_line = r.each_line;
  last_line = no_end_along r.before line r.clean clean;
  in_order = r.in_order ∙ ap (λ (t : Text). text_of_lines r.whole ++ t) (ap (λ (t : Text). r.before ++ t) cut ∙ sym (append_assoc r.before line (10 ∷ after)));
  written = Appends-kept old mid new (output p w r.whole) r.written kept;
  events = r.events;
}

last_of : (ls : List Text) → 0 < length ls → (most : List Text) × (last : Text) × (ls ≡ most ++ last ∷ [])
last_of [] h = absurd (omega arith)
last_of (l ∷ []) h = ([], l, refl)
last_of (l ∷ m ∷ ms) h =
    let more : 0 < length (m ∷ ms) = omega arith in
    let v = last_of (m ∷ ms) more in
    (l ∷ v.0, v.1, ap (λ (ls : List Text). l ∷ ls) v.2)

-- lines ran, and what they wrote was not flushed
pub stops_flush : {S : Type 0} {p : Protocol S} {w : S} {text rest : Text} {long : Bool} {old new : Option Text} {end : S}
    → (r : Reaches p w text rest long old new end) → 0 < length r.whole → StopsWithin p w text old new end
stops_flush r some =
    let v = last_of r.whole some in
    let clean = each_parts HasNoEnd v.0 (v.1 ∷ []) (rw v.2 at r.each_line) in
    grind (arith, text_of_lines-append, append_assoc, text_of_one, starts_with_of_eq, output_along, append-nil, after_along)

-- a flush that wrote nothing
pub reaches_kept : {S : Type 0} {p : Protocol S} {w : S} {text rest : Text} {long : Bool} {old mid new : Option Text} {end : S}
    → Reaches p w text rest long old mid end → Keeps mid new → Reaches p w text rest long old new end
reaches_kept r kept = grind arith

pub stops_kept : {S : Type 0} {p : Protocol S} {w : S} {text : Text} {old mid new : Option Text} {end : S}
    → StopsWithin p w text old mid end → Keeps mid new → StopsWithin p w text old new end
stops_kept s kept = grind arith

-- what is left of the text may be pending in another way
pub reaches_held : {S : Type 0} {p : Protocol S} {w : S} {text rest kept : Text} {long next : Bool} {old new : Option Text} {end : S}
    → (r : Reaches p w text rest long old new end) → HasNoEnd rest → (before : Text) → IsBefore next before → before ++ kept ≡ r.before ++ rest
    → Reaches p w text kept next old new end
reaches_held {rest = rest} {kept = kept} r clean before passed same = record {
  whole = r.whole;
  before = before;
  each_line = r.each_line;
  clean = no_end_first before kept (subst HasNoEnd (sym same) (no_end_along r.before rest r.clean clean));
  passed = passed;
  in_order = r.in_order ∙ ap (λ (t : Text). text_of_lines r.whole ++ t) (sym same);
  written = r.written;
  events = r.events;
}
