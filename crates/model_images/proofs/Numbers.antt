-- Numbers of so many bytes are read as they are written, and no other bytes are.
use Rattle.std.{proofs.{Common.{◌≡◌, ℕ, zero, suc, ◌/◌, ◌^◌, ◌<◌, List, [], ◌∷◌, ◌++◌, Some, refl, sym, ap, subst, arith}, Math.Nat.pow-suc, lemmas.{Bool.{lt-ltb, ltb-true}, Option.same_Some}}, specs.Prelude.{flat_map, length}}
use Rattle.model_images.{specs.{Layouts.{Parsed, parsed, le_bytes, raised_number, parse_number, number}, ByteLaws.{AreBytes, Spells, IsLayout}}, proofs.Options.from_map}

pub number_bytes : (k n : ℕ) → AreBytes (le_bytes k n)
number_bytes zero n = tt
number_bytes (suc k) n = (omega arith, number_bytes k (n / 256))

-- numbers of one byte
pub one_each : (vs : List ℕ) → length (flat_map (le_bytes 1) vs) ≡ length vs
one_each [] = refl
one_each (v ∷ vs) = ap suc (one_each vs)

pub number_again : (k n : ℕ) (rest : List ℕ) → n < 256 ^ k → parse_number k (le_bytes k n ++ rest) ≡ Some (parsed n rest)
number_again zero n rest h = let none : n ≡ 0 = omega arith in ap (λ m. Some (parsed m rest)) (sym none)
number_again (suc k) n rest h = grind (arith, pow-suc, lt-ltb, number_again k (n / 256) rest)

-- one byte more
spells_more : (k b : ℕ) (bs : List ℕ) (q : Parsed ℕ) → b < 256 → Spells (number k) bs q → Spells (number (suc k)) (b ∷ bs) (raised_number b q)
spells_more k b bs q low s = grind (arith, ltb-true, pow-suc, lt-ltb)

pub number_spells : (k : ℕ) (bs : List ℕ) (p : Parsed ℕ) → parse_number k bs ≡ Some p → Spells (number k) bs p
number_spells zero bs p h = subst (Spells (number 0) bs) (same_Some (parsed 0 bs) p h) (record { fits = refl; bytes = refl })
number_spells (suc k) [] p h = cc
number_spells (suc k) (b ∷ bs) p h = grind (arith, number_spells k bs, from_map (raised_number b) (parse_number k bs) p, spells_more k b bs, ltb-true b 256)

pub number_is : (k : ℕ) → IsLayout (number k)
number_is k = grind (arith, number_bytes k, number_again k, ltb-true, number_spells k)
