-- The hexadecimal digits of a number, the highest first.
use Rattle.std.{proofs.{Common.{◌≡◌, ℕ, zero, suc, ◌/◌, ◌%◌, ◌^◌, ◌*◌, ◌<◌, ◌≤◌, min, false, ◌∷◌, [], ◌++◌, sym, ap, ◌∙◌, arith, append_assoc, append-nil}, Math.Nat.{div-div-eq-div-mul, div-one, mul_comm}, lemmas.Nat.pow-add}, specs.Fmt.digit_glyph}
use Rattle.model_guests.specs.{Text.Text, Replies.hex_digits}

power_up : (k : ℕ) → 16 * 2 ^ (4 * k) ≡ 2 ^ (4 * suc k)
power_up k = sym (pow-add 2 4 (4 * k)) ∙ ap (λ e. 2 ^ e) (omega arith)

-- k + 1 digits are the highest and the k lower ones
pub hex_digits_from_high : (k n : ℕ) → hex_digits (suc k) n ≡ digit_glyph false (n / 2 ^ (4 * k) % 16) ∷ hex_digits k n
hex_digits_from_high zero n = ap (λ d. digit_glyph false (d % 16) ∷ []) (sym (div-one n))
hex_digits_from_high (suc k) n = grind (arith, div-div-eq-div-mul, power_up, hex_digits_from_high k (n / 16))

-- the two digits of a byte stand before those of the bytes below it
pub hex_digits_from_byte : (k n : ℕ)
    → hex_digits (suc (suc k)) n ≡ hex_digits 2 (n / 2 ^ (4 * k) % 256) ++ hex_digits k n
hex_digits_from_byte k n = grind (arith, power_up, mul_comm, div-div-eq-div-mul, hex_digits_from_high)

-- what is written of a value once its bytes above the first k are: `start` was there before
abbrev pub Written : ℕ → ℕ → ℕ → Text → Text → Type 0
Written k width n start text = text ++ hex_digits (2 * min width k) n ≡ start ++ hex_digits (2 * width) n

pub byte_written : (k width n b : ℕ) (start before text : Text) → k < width → b ≡ n / 2 ^ (8 * k) % 256
    → text ≡ before ++ hex_digits 2 b → Written (suc k) width n start before → Written k width n start text
byte_written k width n b start before text more is at told =
    let here : min width k ≡ k = omega arith in
    let there : 2 * min width (suc k) ≡ suc (suc (2 * k)) = omega arith in
    grind (arith, append_assoc, hex_digits_from_byte)

pub byte_passed : (k width n : ℕ) (start before text : Text) → width ≤ k → text ≡ before
    → Written (suc k) width n start before → Written k width n start text
byte_passed k width n start before text none at told = grind arith

pub nothing_written : (width n : ℕ) (start : Text) → width ≤ 4 → Written 4 width n start start
nothing_written width n start few = grind arith

pub all_written : (width n : ℕ) (start text : Text) → Written 0 width n start text
    → text ≡ start ++ hex_digits (2 * width) n
all_written width n start text told = grind (arith, append-nil)
