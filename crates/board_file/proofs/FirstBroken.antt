-- Checks of a number, where it is that of the first one that fails.
--     at_number      all checks of the number hold
use Rattle.std.proofs.{Common.{◌≡◌, ℕ, Bool, true, false, ◌&&◌, ◌||◌, ◌==◌, not, List, [], ◌∷◌, Some, arith}, lemmas.Bool.{eqb-true, eq-eqb}}
use Rattle.lists.specs.Elements.{IsIn}
use Rattle.model_registers.specs.DeclarationRules.{first_broken}

abbrev pub at_number : ℕ → List (ℕ × Bool) → Bool
at_number n [] = true
at_number n ((m, b) ∷ more) = (not (m == n) || b) && at_number n more

pub broken_at : (n : ℕ) (cs : List (ℕ × Bool)) → first_broken cs ≡ Some n → at_number n cs ≡ false
broken_at n [] h = cc
broken_at n ((m, b) ∷ more) h = grind (arith, eq-eqb, broken_at n more)

pub from_number : (n : ℕ) (cs : List (ℕ × Bool)) → at_number n cs ≡ false → IsIn (n, false) cs
from_number n [] h = cc
from_number n ((m, b) ∷ more) h = grind (arith, eqb-true, from_number n more)

pub alone : (b : Bool) → (b && true) ≡ false → b ≡ false
alone b h = grind arith
