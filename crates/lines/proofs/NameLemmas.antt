-- The guest of a name, and what a line means by its first word.
use Rattle.std.{proofs.{Common.{◌≡◌, ℕ, ◌+◌, true, false, cond, List, [], ◌∷◌, Option, Some, None, is_some, map, codes, length, refl, sym, ap, subst, ◌∙◌, ◌≤◌, arith}, lemmas.{Iterator.Adapters.position_from-zero, List.Quantifiers.position-Some, Bool.Decides.nat_tests, Slice.Eq.bytes_eq-Decides}}, specs.{List.{position, position_from}, Str.bytes_eq}}
use Rattle.arrayvec.specs.{ArrayVec.ArrayVec, ArrayString.ArrayString}
use Rattle.model_guests.specs.{Text.{Text, words}, Grammar.{nobody, is_comment, has_name, event_of}, Guests.Move, Lines.{bad, event_or_bad, between_guests, meaning_of_words, meaning}}
use Rattle.lines.specs.{Lines.{texts, name_of, GuestsAre, IsFirst}, declared.line.What.What}
use Rattle.lines.specs.declared.line.What.TheVariants as what

-- where the first of a name stands
abbrev pub place_of : List Text → Text → Option ℕ
place_of ns w = position (λ n. bytes_eq n w) ns

-- the same from a place on
abbrev place_from : ℕ → List Text → Text → Option ℕ
place_from i ns w = position_from (λ n. bytes_eq n w) i ns

-- among names as they are held
abbrev pub place_among : ArrayVec ArrayString → Text → Option ℕ
place_among names w = position (λ n. bytes_eq n.bytes w) names.items

place_from_names : (w : Text) (i : ℕ) (ns : List ArrayString)
    → position_from (λ n. bytes_eq n.bytes w) i ns ≡ place_from i (map (λ n. n.bytes) ns) w
place_from_names w i [] = refl
place_from_names w i (n ∷ ns) = ap (cond (bytes_eq n.bytes w) (Some i)) (place_from_names w (i + 1) ns)

pub place_of-names : (names : ArrayVec ArrayString) (w : Text) → place_among names w ≡ place_of (texts names) w
place_of-names names w = grind (arith, position_from-zero, place_from_names)

any-Some : (w : Text) (i g : ℕ) (ns : List Text) → Some g ≡ place_from i ns w → has_name ns w ≡ true
any-Some w i g [] e = absurd (cc)
any-Some w i g (n ∷ ns) e = grind (arith, any-Some w (i + 1) g ns)

any-None : (w : Text) (i : ℕ) (ns : List Text) → None ≡ place_from i ns w → has_name ns w ≡ false
any-None w i [] e = refl
any-None w i (n ∷ ns) e = grind (arith, any-None w (i + 1) ns)

-- the guest that was found
pub record IsFound (ns : List Text) (w : Text) (g : ℕ) : Type 0 where
  pub there : has_name ns w ≡ true
  pub name : name_of ns g ≡ w
  pub first : IsFirst ns g

pub found : (names : ArrayVec ArrayString) (w : Text) (g : ℕ) → Some g ≡ place_among names w → IsFound (texts names) w g
found names w g at = grind (arith, place_of-names, bytes_eq-Decides, position-Some, any-Some, position_from-zero)

pub missing : (names : ArrayVec ArrayString) (w : Text) → None ≡ place_among names w → has_name (texts names) w ≡ false
missing names w at = any-None w 0 (texts names) (at ∙ place_of-names names w ∙ position_from-zero (λ n. bytes_eq n w) (texts names))

pub is_there : (names : ArrayVec ArrayString) (w : Text) (g : Option ℕ) → g ≡ place_among names w → is_some g ≡ has_name (texts names) w
is_there names w None at = sym (missing names w at)
is_there names w (Some g) at = sym ((found names w g at).there)

-- ---- what a line means whose first word tells neither a comment nor the host

pub meaning_of_guest : (names : ArrayVec ArrayString) (w : Text) (ws : List Text) (g : ℕ) → Some g ≡ place_among names w → is_comment w ≡ false → bytes_eq w (codes "host") ≡ false
    → event_or_bad (name_of (texts names) g) (event_of ws) ≡ meaning_of_words (texts names) (w ∷ ws)
meaning_of_guest names w ws g at c h = let it = found names w g at in grind (arith, it)

pub meaning_of_unknown : (names : ArrayVec ArrayString) (w : Text) (ws : List Text) → None ≡ place_among names w → is_comment w ≡ false → bytes_eq w (codes "host") ≡ false
    → bad nobody 402 ≡ meaning_of_words (texts names) (w ∷ ws)
meaning_of_unknown names w ws at c h = grind (arith, missing)

pub meaning-short : (ns : List Text) (line : Text) → length line ≤ 200
    → meaning_of_words ns (words line) ≡ meaning ns line
meaning-short ns line h = grind (arith, nat_tests)

-- ---- the guests that a line names

one_is : (P : ℕ → Type 0) (g h : ℕ) → g ≡ h → P h → P g
one_is P g h e p = subst P (sym e) p

-- what holds of the one guest that a line names holds of its guests
pub guests_are_this : (P : ℕ → Type 0) (g : ℕ) (w : What) → GuestsAre (λ h. h ≡ g) w → P g → GuestsAre P w
guests_are_this P g what.Nothing e p = tt
guests_are_this P g (what.Guest h a) e p = one_is P h g e p
guests_are_this P g (what.Raise h slot place off mask) e p = one_is P h g e p
guests_are_this P g (what.Host r) e p = tt
guests_are_this P g (what.Move from slot to target) e p = (one_is P from g e.0 p, one_is P to g e.1 p)
guests_are_this P g (what.Bad w n) e p = grind (arith, one_is)

-- ---- moves between guests that are there

pub move_there : (ns : List Text) (m : Move) → has_name ns m.from ≡ true → has_name ns m.to ≡ true
    → between_guests ns m ≡ Some m
move_there ns m f t = rw f (rw t refl)

pub move_from_nobody : (ns : List Text) (m : Move) → has_name ns m.from ≡ false → between_guests ns m ≡ None
move_from_nobody ns m f = rw f refl

pub move_to_nobody : (ns : List Text) (m : Move) → has_name ns m.from ≡ true → has_name ns m.to ≡ false
    → between_guests ns m ≡ None
move_to_nobody ns m f t = rw f (rw t refl)
