-- Bytes that were read or written in parts.
use Rattle.std.proofs.{Common.{◌≡◌, ◌≢◌, ℕ, ◌-◌, cond, eqb, List, length, take, drop, arith, rules}, lemmas.{Bool.Decides.nat_tests, Grind.common_steps}}

-- `&xs[n..]`
pub rest_is : (xs : List ℕ) (n : ℕ) → take (length xs - n) (drop n xs) ≡ drop n xs
rest_is xs n = grind (arith, common_steps)

-- a write that takes a byte is no failure
pub none_failed : (n : ℕ) → n ≢ 0 → cond {A = ℕ} (eqb n 0) 1 0 ≡ 0
none_failed n h = search (rules, nat_tests)
