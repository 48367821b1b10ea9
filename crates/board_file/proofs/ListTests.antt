-- Tests of lists and of sizes, as facts.
use Rattle.std.{proofs.{Common.{◌≡◌, ℕ, ℤ, pos, nat_abs, Bool, true, not, List, le-leb, leb-true, IsTrue, IsFalse, arith}, lemmas.Bool.{and_parts, not-true}}, specs.Prelude.int_le}
use Rattle.lists.{specs.Elements.{EachPair, all_pairs}, proofs.{EachLemmas.{pairs_map, pairs_test}, Tests.same_test}}
use Rattle.model_registers.specs.Declarations.{Kind, IsLawfulSize}
use Rattle.bars.proofs.Powers.{power_of_test, test_of_power}
use Rattle.board_file.specs.Rules.{is_valid_bar_size}

-- ---- lists

pub pairs_of_test : {A : Type 0} (r : A → A → Bool) (xs : List A) → all_pairs (λ x y. not (r x y)) xs ≡ true → EachPair (λ x y. IsFalse (r x y)) xs
pairs_of_test r xs h =
    pairs_map (λ x y. IsTrue (not (r x y))) (λ x y. IsFalse (r x y)) xs (λ x y. not-true (r x y)) (pairs_test (λ x y. not (r x y)) xs h)

-- ---- sizes

pub lawful_size : (kind : Kind) (n : ℤ) → is_valid_bar_size kind n ≡ true → IsLawfulSize kind (nat_abs n)
lawful_size kind n h = grind (arith, and_parts, power_of_test, leb-true)

size_of_lawful : (kind : Kind) (n : ℕ) → IsLawfulSize kind n → is_valid_bar_size kind (pos n) ≡ true
size_of_lawful kind n h = grind (arith, test_of_power, le-leb)

pub size_test : (kind : Kind) (n : ℤ) (t : Bool) → int_le (pos 0) n ≡ true → (t ≡ true → IsLawfulSize kind (nat_abs n)) → (IsLawfulSize kind (nat_abs n) → t ≡ true) → t ≡ is_valid_bar_size kind n
size_test kind n t h f g = grind (arith, same_test, size_of_lawful, lawful_size)
