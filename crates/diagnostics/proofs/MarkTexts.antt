-- A mark, read back.
use Rattle.std.{proofs.{Common.{◌≡◌, ◌≢◌, ◌<◌, ◌^◌, ℕ, List, ◌∷◌, Result, Ok, sym, ◌∙◌}, lemmas.Fmt.parse-decimal}, specs.{Prelude.decimal, Str.Parse.ParsesUnsigned}}
use Rattle.diagnostics.specs.Marks.{mark}

tail_of : (x : ℕ) (xs ys : List ℕ) → x ∷ xs ≡ x ∷ ys → xs ≡ ys
tail_of x xs ys e = cc

-- 64 is @
pub read_back : {E : Type 0} (n : ℕ) (text digits : List ℕ) (r : Result ℕ E) → n < 2 ^ 64 → text ≡ mark n → text ≡ 64 ∷ digits
    → ParsesUnsigned 64 10 digits r → r ≡ Ok n
read_back n text digits r small is begins parsed = parse-decimal 64 n digits r small small (tail_of 64 digits (decimal n) (sym begins ∙ is)) parsed

pub begins : (n : ℕ) (text : List ℕ) → text ≡ mark n → ((digits : List ℕ) → text ≢ 64 ∷ digits) → ⊥
begins n text is none = none (decimal n) is
