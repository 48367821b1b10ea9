-- How lines and words are cut off a text.
use Rattle.std.{proofs.{Common.{◌≡◌, ℕ, ◌+◌, ◌-◌, ◌<◌, ◌≤◌, nat_lt, ◌==◌, Bool, true, false, cond, not, List, [], ◌∷◌, Some, None, length, take, drop, refl, sym, ap, ◌∙◌, arith, subst}, lemmas.{Grind.common_steps, Bool.Decides.nat_tests, List.{Splits.{slice_split_first, slice_split_none}, Sums.fails_before_first, Quantifiers.position-Some}}}, specs.List.{slice_split, onto_first, position, position_or_len}}
use Rattle.model_guests.specs.Text.{Text, onto, pieces}
use Rattle.lines.proofs.Digits.{from_None}

abbrev pub is_word : Text → Bool
is_word w = not (length w == 0)

-- a last part without a byte is no piece
abbrev without_last : List Text → List Text
without_last [] = []
without_last ([] ∷ []) = []
without_last ((c ∷ cs) ∷ []) = (c ∷ cs) ∷ []
without_last (p ∷ q ∷ ps) = p ∷ without_last (q ∷ ps)

without_last-split : (p : ℕ → Bool) (a xs : Text)
    → without_last (a ∷ slice_split p xs) ≡ a ∷ without_last (slice_split p xs)
without_last-split p [] [] = refl
without_last-split p (c ∷ cs) [] = refl
without_last-split p a (x ∷ xs) = grind arith

by_test : (b : Bool) (x : ℕ) (cut : List Text) (rest : List Text)
    → without_last ([] ∷ cut) ≡ [] ∷ without_last cut → without_last cut ≡ rest
    → without_last (cond b ([] ∷ cut) (onto_first x cut)) ≡ cond b ([] ∷ rest) (onto x rest)
by_test true x cut rest first same = first ∙ ap (λ ps. [] ∷ ps) same
by_test false x cut rest first same = grind arith

pub pieces-split : (p : ℕ → Bool) (xs : Text) → without_last (slice_split p xs) ≡ pieces p xs
pieces-split p [] = refl
pieces-split p (x ∷ xs) = grind (arith, by_test, without_last-split, pieces-split p xs)

-- `&xs[n..]`
pub rest_is : (xs : Text) (n : ℕ) → take (length xs - n) (drop n xs) ≡ drop n xs
rest_is xs n = grind (arith, common_steps)

pub place_is : (b : Bool) (k n : ℕ) → Some n ≡ cond b (Some k) None → k ≡ n
place_is b k n e = grind arith

-- the first piece ends at the first place that ends one
pub pieces-first : (p : ℕ → Bool) (xs : Text) (n : ℕ) → Some n ≡ position p xs
    → pieces p xs ≡ take n xs ∷ pieces p (drop (n + 1) xs)
pieces-first p xs n e =
    let k = position_or_len p xs in
    let at : k ≡ n = place_is (nat_lt k (length xs)) k n e in
    let within : k < length xs = omega (arith, (position-Some p xs n 0 (sym e)).0) in
    let F : ℕ → Type 0 = λ m. pieces p xs ≡ take m xs ∷ pieces p (drop (m + 1) xs) in
    subst F at
    (sym (pieces-split p xs) ∙ ap without_last (slice_split_first p xs 0 within)
    ∙ without_last-split p (take k xs) (drop (k + 1) xs)
    ∙ ap (λ ps. take k xs ∷ ps) (pieces-split p (drop (k + 1) xs)))

without_last-one : (xs : Text) → 0 < length xs → without_last (xs ∷ []) ≡ xs ∷ []
without_last-one xs some = grind arith

-- a text in which no place ends a piece is one piece
pub pieces-none : (p : ℕ → Bool) (xs : Text) → None ≡ position p xs → 0 < length xs → pieces p xs ≡ xs ∷ []
pieces-none p xs e some =
    let k = position_or_len p xs in
    let past : length xs ≤ k = grind (arith, nat_tests, from_None (nat_lt k (length xs)) k e) in
    sym (pieces-split p xs)
    ∙ ap without_last (slice_split_none p xs (λ j d h. fails_before_first p xs j d (omega arith)))
    ∙ without_last-one xs some
