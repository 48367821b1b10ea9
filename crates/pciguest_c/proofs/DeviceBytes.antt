-- How large a number some bytes hold.
--     one_more      one byte more, which is the lowest
--     eight      up to eight bytes
use Rattle.std.proofs.{Common.{◌≡◌, ℕ, ◌+◌, ◌*◌, ◌^◌, ◌<◌, ◌≤◌, arith}, Math.Nat.pow-le-pow_right, lemmas.Grind.pow_more}

pub one_more : (n k byte above : ℕ) → k + 1 ≡ n → byte < 256 → above < 256 ^ k → byte + 256 * above < 256 ^ n
one_more n k byte above is low small = grind (arith, pow_more)

pub eight : (n : ℕ) → n ≤ 8 → 256 ^ n ≤ 2 ^ 64
eight n few = pow-le-pow_right {n = 256} (omega arith) {i = n} {j = 8} few
