-- The decimal digits of numbers below 100.
use Rattle.std.{proofs.{Common.{◌≡◌, ℕ, ◌+◌, ◌/◌, ◌%◌, ◌≤◌, ◌<◌, [], ◌∷◌, arith}, lemmas.Bool.Decides.nat_tests}, specs.{Prelude.decimal, Fmt.digits}}

pub one_digit : (n : ℕ) → n < 10 → decimal n ≡ (48 + n % 10) ∷ []
unfolding digits
one_digit n h = let none : n / 10 ≡ 0 = omega arith in let unit : n % 10 ≡ n = omega arith in search (arith, nat_tests)

pub two_digits : (n : ℕ) → 10 ≤ n → n < 100 → decimal n ≡ (48 + n / 10) ∷ (48 + n % 10) ∷ []
unfolding digits
two_digits n h k = let none : n / 10 / 10 ≡ 0 = omega arith in search (arith, nat_tests)
