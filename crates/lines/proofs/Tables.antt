-- Tables with a place for each byte: they hold what the definitions say, by computing.
use Rattle.std.{proofs.{Common.{◌≡◌, ℕ, ◌+◌, ◌*◌, ◌/◌, ◌%◌, ◌<◌, ◌≤◌, ◌==◌, Bool, true, false, cond, map, get_or, Option, Some, None, refl, ap, ◌∙◌, arith}, lemmas.{Bool.Decides.nat_tests, List.FromFn.get_or-map-range_with_len}}, specs.{Prelude.unwrap_or, List.range_with_len, Fmt.digit_glyph}}
use Rattle.model_guests.specs.{Text.is_blank, Numbers.{below, digit_of}}
use Rattle.lines.specs.declared.{numbers.TheConstants.DIGITS, replies.TheConstants.PAIRS, words.TheConstants.BLANKS}

abbrev digit_mark : ℕ → ℕ
digit_mark b = unwrap_or (digit_of b) 255

digits_are : DIGITS ≡ map digit_mark (range_with_len 0 256)
digits_are = refl

pub digit_at : (b : ℕ) → b < 256 → get_or DIGITS b 0 ≡ unwrap_or (digit_of b) 255
digit_at b h =
    ap (λ t. get_or t b 0) digits_are ∙ get_or-map-range_with_len digit_mark 0 256 b b 0 h (omega arith)

-- a byte that is no digit is at no base
pub digit_below : (base : ℕ) (digit : Option ℕ) → unwrap_or digit 255 < base → base ≤ 255
    → Some (unwrap_or digit 255) ≡ below base digit
digit_below base digit h small = grind (arith, nat_tests)

pub no_digit_below : (base : ℕ) (digit : Option ℕ) → base ≤ unwrap_or digit 255 → None ≡ below base digit
no_digit_below base digit h = grind (arith, nat_tests)

abbrev blank_mark : ℕ → ℕ
blank_mark b = cond (is_blank b) 1 0

blanks_are : BLANKS ≡ map blank_mark (range_with_len 0 256)
blanks_are = refl

marked : (t : Bool) → (cond t 1 0 == 1) ≡ t
marked t = grind arith

pub blank_at : (b : ℕ) → b < 256 → (get_or BLANKS b 0 == 1) ≡ is_blank b
blank_at b h =
    ap (λ (n : ℕ). n == 1)
    (ap (λ t. get_or t b 0) blanks_are ∙ get_or-map-range_with_len blank_mark 0 256 b b 0 h (omega arith))
    ∙ marked (is_blank b)

-- at an even place the high digit of a byte, and at the next one the low digit
abbrev pair_mark : ℕ → ℕ
pair_mark k = digit_glyph false (cond (k % 2 == 0) (k / 32) (k / 2 % 16))

pairs_are : PAIRS.now ≡ map pair_mark (range_with_len 0 512)
pairs_are = refl

pair_at : (k : ℕ) → k < 512 → get_or PAIRS.now k 0 ≡ pair_mark k
pair_at k h =
    ap (λ t. get_or t k 0) pairs_are ∙ get_or-map-range_with_len pair_mark 0 512 k k 0 h (omega arith)

even : (b : ℕ) → (2 * b % 2 == 0) ≡ true
even b = grind (arith, nat_tests)

odd : (b : ℕ) → ((2 * b + 1) % 2 == 0) ≡ false
odd b = grind (arith, nat_tests)

pub high_at : (b : ℕ) → b < 256 → get_or PAIRS.now (2 * b) 0 ≡ digit_glyph false (b / 16 % 16)
high_at b h =
    pair_at (2 * b) (omega arith) ∙ ap (λ t. digit_glyph false (cond t (2 * b / 32) (2 * b / 2 % 16))) (even b)
    ∙ ap (digit_glyph false) (omega arith)

pub low_at : (b : ℕ) → b < 256 → get_or PAIRS.now (2 * b + 1) 0 ≡ digit_glyph false (b % 16)
low_at b h =
    pair_at (2 * b + 1) (omega arith)
    ∙ ap (λ t. digit_glyph false (cond t ((2 * b + 1) / 32) ((2 * b + 1) / 2 % 16))) (odd b)
    ∙ ap (digit_glyph false) (omega arith)
