-- Tests of two parts.
use Rattle.std.{proofs.Common.{◌≡◌, Bool, true, false, not, ◌&&◌, ◌||◌, Option, Some, arith}, specs.Prelude.is_some}

pub left_true : (a b : Bool) → (a && b) ≡ true → a ≡ true
left_true a b h = grind arith

pub right_true : (a b : Bool) → (a && b) ≡ true → b ≡ true
right_true a b h = grind arith

pub second_false : (a b : Bool) → (a && b) ≡ false → a ≡ true → b ≡ false
second_false a b h k = grind arith

-- two tests that hold at the same time are one
pub same_test : (a b : Bool) → (a ≡ true → b ≡ true) → (b ≡ true → a ≡ true) → a ≡ b
same_test a b f g = grind arith

-- where one test asks for another, and fails
pub asked_false : (a b : Bool) → a ≡ true → b ≡ false → (not a || b) ≡ false
asked_false a b h k = rw (h, k)

pub asked_true : (a b : Bool) → a ≡ true → (not a || b) ≡ true → b ≡ true
asked_true a b h k = grind arith

pub and_true : (a : Bool) → (a && true) ≡ a
and_true a = grind arith

pub and_false : (a : Bool) → (a && false) ≡ false
and_false a = grind arith

pub or_false : (a : Bool) → (a || false) ≡ a
or_false a = grind arith

pub some_there : {A : Type 0} (o : Option A) → is_some o ≡ true → (x : A) × (o ≡ Some x)
some_there o h = grind arith
