-- Powers of two are the numbers with one bit set.
use Rattle.std.{proofs.{Common.{◌≡◌, ℕ, zero, suc, ◌/◌, ◌%◌, ◌^◌, ◌<◌, ◌⊎◌, inl, inr, true, refl, ap, ◌∙◌, arith, eqb}, lemmas.{Nat.{zero_from_ones, ones_cat}, Bool.eqb-true}, Math.Nat.{one-le-pow, pow-suc}}, specs.{Prelude.count_ones, Int.{IsPowerOfTwo, is_power_of_two}}}
use lib.Count.{ones_step, ones}

even_or_odd : (n : ℕ) → (n % 2 ≡ 0) ⊎ (n % 2 ≡ 1)
even_or_odd n = elim (n % 2) as (λ d. d < 2 → (d ≡ 0) ⊎ (d ≡ 1)) [ zero ↦ λ h. inl refl | suc d ↦ λ h. inr (omega arith) ] (omega arith)

-- by the lowest digit: where it is set the rest is 0, and otherwise the half has one bit set
from_ones : (b n : ℕ) → n < b → count_ones n ≡ 1 → IsPowerOfTwo n
unfolding ones
from_ones zero n h one = absurd (omega arith)
from_ones (suc b) zero h one = (0, cc)
from_ones (suc b) (suc m) h one = elim (even_or_odd (suc m)) [
  | inl even ↦
      let half : IsPowerOfTwo (suc m / 2) = from_ones b (suc m / 2) (omega arith) (omega (arith, ones_step (suc m))) in
      (suc half.0, omega (arith, half.1, pow-suc 2 half.0))
  | inr odd ↦
      let none : suc m / 2 ≡ 0 = zero_from_ones (suc m / 2) (omega (arith, ones_step (suc m))) in
      (0, omega arith)
]

pub power_of_test : (n : ℕ) → is_power_of_two n ≡ true → IsPowerOfTwo n
power_of_test n h = from_ones (suc n) n (omega arith) (eqb-true (count_ones n) 1 h)

ones_of_power : (k : ℕ) → count_ones (2 ^ k) ≡ 1
unfolding ones
ones_of_power k = ap count_ones (omega arith) ∙ ones_cat k 1 0 (one-le-pow k 2 (omega arith))

pub test_of_power : (n : ℕ) → IsPowerOfTwo n → is_power_of_two n ≡ true
test_of_power n (k, e) = ap (λ m. eqb (count_ones m) 1) e ∙ ap (λ m. eqb m 1) (ones_of_power k)
