-- Where line feeds stand in a text.
use Rattle.std.{proofs.{Common.{◌≡◌, ℕ, suc, ◌+◌, ◌<◌, Bool, false, not, cond, List, [], ◌∷◌, ◌++◌, Some, None, length, take, drop, get_or, refl, sym, ap, ap₂, ◌∙◌, arith, take-append-drop}, Math.Seq.drop-cons, lemmas.{Bool.{or_parts, Decides.nat_tests}, Iterator.Adapters.position_from-zero, List.Quantifiers.position-Some}}, specs.List.{position, position_from, position_or_len}}
use Rattle.model_guests.specs.{Text.{Text, ends_line, lines, onto}, LineRuns.HasNoEnd}

pub no_end_along : (a b : Text) → HasNoEnd a → HasNoEnd b → HasNoEnd (a ++ b)
no_end_along [] b p q = q
no_end_along (c ∷ cs) b p q = grind (arith, or_parts, no_end_along cs b)

pub no_end_first : (a b : Text) → HasNoEnd (a ++ b) → HasNoEnd a
no_end_first [] b h = refl
no_end_first (c ∷ cs) b h = grind (arith, or_parts, no_end_first cs b)

-- no byte before the first place is a line feed
before_first : (b : Bool) (c n : ℕ) (cs : Text) → ends_line c ≡ b → HasNoEnd (take n cs) → HasNoEnd (take (cond (not b) (1 + n) 0) (c ∷ cs))
before_first b c n cs e h = grind arith

no_end_before : (xs : Text) → HasNoEnd (take (position_or_len ends_line xs) xs)
no_end_before [] = refl
no_end_before (c ∷ cs) = before_first (ends_line c) c (position_or_len ends_line cs) cs refl (no_end_before cs)

pub no_end_to : (xs : Text) (n : ℕ) → Some n ≡ position ends_line xs → HasNoEnd (take n xs)
no_end_to xs n e = grind (arith, no_end_before)

pub ends_at : (xs : Text) (n : ℕ) → Some n ≡ position ends_line xs → xs ≡ take n xs ++ 10 ∷ drop (n + 1) xs
ends_at xs n e =
    let found = position-Some ends_line xs n 0 (sym e) in
    let within : n < length xs = found.0 in
    let next : suc n ≡ n + 1 = omega arith in
    let byte : get_or xs n 0 ≡ 10 = grind (arith, nat_tests, found.1) in
    sym (take-append-drop n xs) ∙ ap (λ (t : Text). take n xs ++ t) (drop-cons xs n 0 within ∙ ap₂ (λ (c : ℕ) (cs : Text). c ∷ cs) byte (ap (λ (m : ℕ). drop m xs) next))

no_end_from : (i : ℕ) (xs : Text) → None ≡ position_from ends_line i xs → HasNoEnd xs
no_end_from i [] e = refl
no_end_from i (c ∷ cs) e = grind (arith, no_end_from (i + 1) cs)

pub no_end_none : (xs : Text) → None ≡ position ends_line xs → HasNoEnd xs
no_end_none xs e = no_end_from 0 xs (e ∙ position_from-zero ends_line xs)

-- a text with no line feed is one line
one_more_byte : (b : Bool) (c : ℕ) (cs : Text) (ls : List Text) → b ≡ false → ls ≡ cs ∷ [] → cond b ([] ∷ ls) (onto c ls) ≡ (c ∷ cs) ∷ []
one_more_byte b c cs ls e h = grind arith

pub one_line : (c : ℕ) (cs : Text) → HasNoEnd (c ∷ cs) → lines (c ∷ cs) ≡ (c ∷ cs) ∷ []
one_line c [] h = grind (arith, or_parts)
one_line c (d ∷ ds) h = grind (arith, or_parts, one_more_byte, one_line d ds)

pub some_line : (xs : Text) → HasNoEnd xs → 0 < length xs → lines xs ≡ xs ∷ []
some_line [] h some = absurd (omega arith)
some_line (c ∷ cs) h some = one_line c cs h
