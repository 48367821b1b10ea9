-- A number that is read digit by digit.
use Rattle.std.{proofs.{Common.{◌≡◌, ℕ, ◌+◌, ◌*◌, ◌≤◌, Bool, false, cond, [], ◌∷◌, Option, Some, None, length, option_map, refl, arith}, lemmas.Bool.Decides.nat_tests, Math.Nat.mul-le-mul_left}, specs.Option.option_and_then}
use Rattle.model_guests.specs.{Text.Text, Numbers.{below, digit_of, digits_from, digits_in}}

pub from_None : (b : Bool) (n : ℕ) → None ≡ cond b (Some n) None → b ≡ false
from_None b n e = grind arith

-- one more digit of a number
abbrev pub longer : ℕ → ℕ → Text → Option ℕ → Option ℕ
longer base n cs digit = option_and_then (λ (d : ℕ). digits_from base (n * base + d) cs) digit

longer-past : (limit base n : ℕ) (cs : Text) (digit : Option ℕ) → 1 ≤ base → limit ≤ n
    → ((m : ℕ) → limit ≤ m → None ≡ below limit (digits_from base m cs)) → None ≡ below limit (longer base n cs digit)
longer-past limit base n cs None some past more = refl
longer-past limit base n cs (Some d) some past more = more (n * base + d) (omega (arith, mul-le-mul_left n some))

-- a number that is too large stays so
past : (limit base n : ℕ) (cs : Text) → 1 ≤ base → limit ≤ n → None ≡ below limit (digits_from base n cs)
past limit base n [] some h = grind (arith, nat_tests)
past limit base n (c ∷ cs) some h =
    longer-past limit base n cs (below base (digit_of c)) some h (λ m g. past limit base m cs some g)

pub longer-None : (limit base n : ℕ) (cs : Text) (digit : Option ℕ) → 1 ≤ base
    → None ≡ below limit (option_map (λ d. n * base + d) digit) → None ≡ below limit (longer base n cs digit)
longer-None limit base n cs digit some e = grind (arith, past, nat_tests, from_None)

pub digits_in-some : (base : ℕ) (ds : Text) → 1 ≤ length ds → digits_in base ds ≡ digits_from base 0 ds
digits_in-some base ds h = grind arith
