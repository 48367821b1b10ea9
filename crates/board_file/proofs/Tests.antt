-- Tests of all elements of a list, with their indices, and of all pairs; lists that have none.
use Rattle.std.{proofs.{Common.{◌≡◌, ℕ, ◌+◌, arith, Bool, true, ◌&&◌, cond, List, [], ◌∷◌, ◌++◌, map, take, refl, sym, ap, ap₂, ◌∙◌, add-one}, Math.Bool.{and-true, and_comm, and_assoc}, lemmas.{Bool.and_parts, List.Folds.{list_all-map, list_all-append}}}, specs.List.{list_all, flat_map, enumerate_from}}
use Rattle.lists.{specs.Elements.all_pairs, proofs.Members.{all_in, all_from}}
use Rattle.board_file.specs.Problems.{none}

-- ---- tests in another order

pub and_left_comm : (a b c : Bool) → (a && (b && c)) ≡ (b && (a && c))
and_left_comm a b c = sym (and_assoc a b c) ∙ ap (λ t. t && c) (and_comm a b) ∙ and_assoc b a c

-- in whatever order tests are asked
pub ruleset any_order = (and-true, and_assoc, and_comm, and_left_comm)

-- the first three tests of a list
pub first_three : (a b c more : Bool) → (a && (b && (c && more))) ≡ true → (a ≡ true) × (b ≡ true) × (c ≡ true) × (more ≡ true)
first_three a b c more h = grind (arith, and_parts)

-- ---- all elements

pub imply_all : {A : Type 0} (p q : A → Bool) → ((x : A) → p x ≡ true → q x ≡ true) → (xs : List A) → list_all p xs ≡ true → list_all q xs ≡ true
imply_all p q f xs h = all_from q xs (λ x m. f x (all_in p x xs h m))

pub all-true : {A : Type 0} (xs : List A) → list_all (λ x. true) xs ≡ true
all-true [] = refl
all-true (x ∷ xs) = all-true xs

pub same-all : {A : Type 0} (p q : A → Bool) (xs : List A) → ((x : A) → p x ≡ q x) → list_all p xs ≡ list_all q xs
same-all p q [] h = refl
same-all p q (x ∷ xs) h = ap₂ (λ (a b : Bool). a && b) (h x) (same-all p q xs h)

pub all-both : {A : Type 0} (p q : A → Bool) (xs : List A) → list_all (λ x. p x && q x) xs ≡ (list_all p xs && list_all q xs)
all-both p q [] = refl
all-both p q (x ∷ xs) = ap (λ b. (p x && q x) && b) (all-both p q xs) ∙ simp any_order

-- ---- elements with their indices

-- a test that does not look at the index
pub numbered : {A : Type 0} (p : ℕ × A → Bool) (n : ℕ) (xs : List A)
    → ((i : ℕ) (x : A) → p (i, x) ≡ p (0, x)) → list_all p (enumerate_from n xs) ≡ list_all (λ x. p (0, x)) xs
numbered p n [] h = refl
numbered p n (x ∷ xs) h = rw (h n x, numbered p (n + 1) xs h) refl

from_next : {A : Type 0} (p : ℕ × A → Bool) (n : ℕ) (xs : List A)
    → list_all p (enumerate_from (n + 1) xs) ≡ list_all (λ x. p (x.0 + 1, x.1)) (enumerate_from n xs)
from_next p n [] = refl
from_next p n (x ∷ xs) = ap (λ b. p (n + 1, x) && b) (from_next p (n + 1) xs)

take-next : {A : Type 0} (n : ℕ) (x : A) (xs : List A) → take (n + 1) (x ∷ xs) ≡ x ∷ take n xs
take-next n x xs = rw add-one refl

-- each with those before it, by a test that does not look at the index
pub with_earlier : {A : Type 0} (r : A → ℕ × A → Bool) (xs : List A) → ((i : ℕ) (y x : A) → r y (i, x) ≡ r y (0, x))
    → list_all (λ x. list_all (λ y. r y x) (take x.0 xs)) (enumerate_from 0 xs) ≡ all_pairs (λ y x. r y (0, x)) xs
with_earlier r [] h = refl
with_earlier r (x ∷ xs) h =
    from_next (λ y. list_all (λ z. r z y) (take y.0 (x ∷ xs))) 0 xs
    ∙ simp (take-next, h, all-both, numbered) (ap (λ b. list_all (λ y. r x (0, y)) xs && b) (with_earlier (λ y z. r y (0, z.1)) xs (λ i y z. refl)))

-- ---- pairs

pub pairs-map : {A B : Type 0} (r : B → B → Bool) (g : A → B) (xs : List A)
    → all_pairs r (map g xs) ≡ all_pairs (λ x y. r (g x) (g y)) xs
pairs-map r g [] = refl
pairs-map r g (x ∷ xs) = rw (list_all-map (r (g x)) g xs, pairs-map r g xs) refl

-- the pairs in one list, those of an element of each, and those in the other
pub pairs-append : {A : Type 0} (r : A → A → Bool) (xs ys : List A)
    → all_pairs r (xs ++ ys) ≡ (all_pairs r xs && (list_all (λ y. list_all (λ x. r x y) xs) ys && all_pairs r ys))
pairs-append r [] ys = ap (λ (b : Bool). b && all_pairs r ys) (sym (all-true ys))
pairs-append r (x ∷ xs) ys =
    ap₂ (λ (a b : Bool). a && b) (list_all-append (r x) xs ys) (pairs-append r xs ys)
    ∙ regroup (list_all (r x) xs) (list_all (r x) ys) (all_pairs r xs) (list_all (λ y. list_all (λ z. r z y) xs) ys) (all_pairs r ys)
    ∙ ap (λ (b : Bool). (list_all (r x) xs && all_pairs r xs) && (b && all_pairs r ys)) (sym (all-both (r x) (λ y. list_all (λ z. r z y) xs) ys))
  where
    regroup : (a b c d e : Bool) → ((a && b) && (c && (d && e))) ≡ ((a && c) && ((b && d) && e))
    regroup a b c d e = simp any_order

-- whichever of two lists is gone through first
either_first : {A : Type 0} (r : A → A → Bool) → ((x y : A) → r x y ≡ r y x) → (xs ys : List A)
    → list_all (λ y. list_all (λ x. r x y) xs) ys ≡ list_all (λ x. list_all (λ y. r y x) ys) xs
either_first r turn [] ys = all-true ys
either_first r turn (x ∷ xs) ys =
    all-both (r x) (λ y. list_all (λ z. r z y) xs) ys
    ∙ ap₂ (λ (a b : Bool). a && b) (same-all (r x) (λ y. r y x) ys (turn x)) (either_first r turn xs ys)

pub pairs-swap : {A : Type 0} (r : A → A → Bool) → ((x y : A) → r x y ≡ r y x) → (xs ys : List A) → all_pairs r (xs ++ ys) ≡ all_pairs r (ys ++ xs)
pairs-swap r turn xs ys =
    pairs-append r xs ys
    ∙ ap (λ (b : Bool). all_pairs r xs && (b && all_pairs r ys)) (either_first r turn xs ys)
    ∙ outer_two (all_pairs r xs) (list_all (λ x. list_all (λ y. r y x) ys) xs) (all_pairs r ys)
    ∙ sym (pairs-append r ys xs)
  where
    outer_two : (a b c : Bool) → (a && (b && c)) ≡ (c && (b && a))
    outer_two a b c = simp any_order

-- ---- lists that have no element

pub none-append : {A : Type 0} (xs ys : List A) → none (xs ++ ys) ≡ (none xs && none ys)
none-append xs ys = grind arith

pub none-flat : {A B : Type 0} (g : A → List B) (xs : List A) → none (flat_map g xs) ≡ list_all (λ x. none (g x)) xs
none-flat g [] = refl
none-flat g (x ∷ xs) = rw (none-append (g x) (flat_map g xs), none-flat g xs) refl

pub none-unless : {A : Type 0} (t : Bool) (x : A) → none (cond t [] (x ∷ [])) ≡ t
none-unless t x = grind arith

-- where elements are listed unless a test holds of each
pub ruleset nothing_listed = (none-append, none-flat, none-unless, all-true, numbered, and-true)
