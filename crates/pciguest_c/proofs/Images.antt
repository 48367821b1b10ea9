-- Bytes that are put into a buffer from its beginning on.
--     told_at_front      they stand at its front, which a call tells that answers 0
use Rattle.std.proofs.Common.{◌≡◌, ◌+◌, ℕ, List, [], ◌∷◌, ◌++◌, length, drop, ap, arith}
use Rattle.images.specs.Puts.{put}
use Rattle.pciguest_c.specs.TextsTold.{at_front, IsTold}

from_zero : (n : ℕ) → 0 + n ≡ n
from_zero n = omega arith

put_at_front : (xs out : List ℕ) → put 0 xs out ≡ at_front xs out
put_at_front xs [] = ap (λ n. xs ++ drop n []) (from_zero (length xs))
put_at_front xs (v ∷ out) = ap (λ n. xs ++ drop n (v ∷ out)) (from_zero (length xs))

pub told_at_front : (xs out after : List ℕ) → after ≡ put 0 xs out → IsTold xs out after 0
told_at_front xs out after is = grind (arith, put_at_front)
