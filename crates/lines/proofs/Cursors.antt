-- The front of a text: its first word, and the number that this writes.
use Rattle.std.{proofs.{Common.{◌≡◌, ℕ, ◌+◌, ◌<◌, ◌≤◌, ◌==◌, ◌&&◌, ◌||◌, ◌^◌, Bool, true, false, cond, List, [], ◌∷◌, Option, Some, None, length, drop, filter, option_map, refl, sym, ap, ◌∙◌, arith, ◌*◌, get_or, Bor}, lemmas.{Bool.Decides.nat_tests, List.drop_more}}, specs.{Prelude.MatchOption, List.starts_with}}
use Rattle.model_guests.specs.{Text.{Text, onto, pieces, is_blank, words}, Numbers.{below, digit_of, digits_from, digits_in, is_hexadecimal, number_of}}
use Rattle.lines.{specs.Cursors.{before_blank, after_blank, IsAtWord, Numbered, numbered}, proofs.{Digits.{longer, longer-None}, Splitting.{is_word, place_is}}}

by_next : (b : Bool) (c d : ℕ) (ds : Text)
    → onto d (pieces is_blank ds) ≡ (d ∷ before_blank ds) ∷ pieces is_blank (after_blank ds)
    → onto c (cond b ([] ∷ pieces is_blank ds) (onto d (pieces is_blank ds)))
    ≡ (c ∷ cond b [] (d ∷ before_blank ds)) ∷ pieces is_blank (cond b ds (after_blank ds))
by_next b c d ds e = grind arith

pieces-onto : (c : ℕ) (cs : Text)
    → onto c (pieces is_blank cs) ≡ (c ∷ before_blank cs) ∷ pieces is_blank (after_blank cs)
pieces-onto c [] = refl
pieces-onto c (d ∷ ds) = by_next (is_blank d) c d ds (pieces-onto d ds)

kept : (w : Text) (ws : List Text) → 1 ≤ length w → filter is_word (w ∷ ws) ≡ w ∷ filter is_word ws
kept w ws h = grind (arith, nat_tests)

-- the first word is what stands before the first blank
pub words-first : (c : ℕ) (cs : Text) → is_blank c ≡ false
    → words (c ∷ cs) ≡ before_blank (c ∷ cs) ∷ words (after_blank (c ∷ cs))
words-first c cs h = grind (arith, is_word, pieces-onto, kept)

pub at_other : (c : ℕ) (cs : Text) → is_blank c ≡ false
    → (before_blank (c ∷ cs) ≡ c ∷ before_blank cs) × (after_blank (c ∷ cs) ≡ after_blank cs)
at_other c cs h = (rw h refl, rw h refl)

-- a digit is no blank
pub digit_or_blank : (c : ℕ) → is_blank c ≡ true → digit_of c ≡ None
digit_or_blank c h = grind (arith, nat_tests)

-- ---- the two bytes before hexadecimal digits

not_both : (c p : ℕ) → is_blank c ≡ true → is_blank p ≡ false → (p == c) ≡ false
not_both c p h g = grind (arith, nat_tests)

one-before : (p : ℕ) (cs : Text) → is_blank p ≡ false
    → starts_with ◌==◌ (before_blank cs) (p ∷ []) ≡ starts_with ◌==◌ cs (p ∷ [])
one-before p [] g = refl
one-before p (c ∷ cs) g = grind (arith, not_both)

pub hexadecimal-before : (w : Text) → is_hexadecimal (before_blank w) ≡ is_hexadecimal w
hexadecimal-before [] = refl
hexadecimal-before (c ∷ cs) = grind (arith, not_both, one-before)

either_one : (b : Bool) → (b && false || b && false) ≡ true → ⊥
either_one b h = grind arith

second_byte : (b : Bool) (d : ℕ) → (b && (120 == d && true) || b && (88 == d && true)) ≡ true → is_blank d ≡ false
second_byte b d h = grind (arith, nat_tests)

-- a hexadecimal number before a blank
after_two : (c d : ℕ) (ds : Text) → is_blank c ≡ false → is_blank d ≡ false
    → (before_blank (c ∷ d ∷ ds) ≡ c ∷ d ∷ before_blank ds) × (after_blank (c ∷ d ∷ ds) ≡ after_blank ds)
after_two c d ds h g = grind (arith, at_other)

-- the number with the words after it
abbrev pub with_rest : Text → Option ℕ → Option Numbered
with_rest after n = option_map (λ (k : ℕ). record { number = k; rest = words after }) n

hexadecimal_of : (x : Text) → is_hexadecimal x ≡ true → number_of x ≡ below (2 ^ 64) (digits_in 16 (drop 2 x))
hexadecimal_of x h = rw h refl

decimal_of : (x : Text) → is_hexadecimal x ≡ false → number_of x ≡ below (2 ^ 64) (digits_in 10 x)
decimal_of x h = rw h refl

pub numbered-hexadecimal : (w : Text) → IsAtWord w → is_hexadecimal w ≡ true
    → numbered (words w) ≡ with_rest (after_blank (drop 2 w)) (below (2 ^ 64) (digits_in 16 (before_blank (drop 2 w))))
numbered-hexadecimal w at h = grind (arith, either_one, after_two, second_byte, words-first, hexadecimal_of, hexadecimal-before)

pub numbered-decimal : (w : Text) → IsAtWord w → is_hexadecimal w ≡ false
    → numbered (words w) ≡ with_rest (after_blank w) (below (2 ^ 64) (digits_in 10 (before_blank w)))
numbered-decimal w at h = grind (arith, words-first, decimal_of, hexadecimal-before)

-- what is read of a number, with what comes after it
pub numbered-read : (r : Option (ℕ × Bor Text)) (n : Option ℕ) (after : Text) (wanted : Option Numbered)
    → wanted ≡ with_rest after n → MatchOption r (n ≡ None) (λ p. (n ≡ Some p.0) × (p.1.now ≡ after))
    → MatchOption r (wanted ≡ None) (λ p. wanted ≡ Some (record { number = p.0; rest = words p.1.now }))
numbered-read r n after wanted e h = grind arith

-- ---- digits one by one

pub digits_in-before : (base : ℕ) (t : Text) → 1 ≤ length t → is_blank (get_or t 0 0) ≡ false
    → digits_in base (before_blank t) ≡ digits_from base 0 (before_blank t)
digits_in-before base [] some h = absurd (omega arith)
digits_in-before base (c ∷ cs) some h = rw (at_other c cs h).0 refl

-- a byte that is neither a digit nor a blank, or a digit too many
pub no_longer : (limit base n i : ℕ) (t : Text) → i < length t → 1 ≤ base → is_blank (get_or t i 0) ≡ false
    → None ≡ below limit (option_map (λ d. n * base + d) (below base (digit_of (get_or t i 0))))
    → None ≡ below limit (digits_from base n (before_blank (drop i t)))
no_longer limit base n i t low some h e =
    longer-None limit base n (before_blank (drop (i + 1) t)) (below base (digit_of (get_or t i 0))) some e
    ∙ ap (λ (xs : Text). below limit (digits_from base n xs)) (sym (at_other (get_or t i 0) (drop (i + 1) t) h).0 ∙ ap before_blank (sym (drop_more t i 0 low)))

longer_is : (limit base n m : ℕ) (cs : Text) (digit : Option ℕ) → Some m ≡ below limit (option_map (λ d. n * base + d) digit)
    → digits_from base m cs ≡ longer base n cs digit
longer_is limit base n m cs digit e = grind (arith, place_is)

pub no_blank : (b : Bool) (limit base n m c : ℕ) → is_blank c ≡ b
    → Some m ≡ below limit (option_map (λ d. n * base + d) (below base (digit_of c))) → b ≡ false
no_blank b limit base n m c h e = grind (arith, digit_or_blank)

-- a digit more
pub record Longer (limit base n m : ℕ) (old new : Text) : Type 0 where
  pub read : digits_from base m (before_blank new) ≡ digits_from base n (before_blank old)
  pub after : after_blank new ≡ after_blank old
  pub small : m < limit

by_digit : (limit base n m b : ℕ) (t : Text)
    → Some m ≡ below limit (option_map (λ d. n * base + d) (below base (digit_of b))) → Longer limit base n m (b ∷ t) t
by_digit limit base n m b t e = grind (arith, at_other, no_blank, longer_is, nat_tests, place_is)

pub one_longer : (limit base n m i : ℕ) (t : Text) → i < length t
    → Some m ≡ below limit (option_map (λ d. n * base + d) (below base (digit_of (get_or t i 0)))) → Longer limit base n m (drop i t) (drop (i + 1) t)
one_longer limit base n m i t low e = grind (arith, drop_more, by_digit)
