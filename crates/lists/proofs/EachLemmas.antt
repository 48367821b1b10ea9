-- What holds of each element, or of each pair: lists end to end, maps, filters, tests and permutations.
use Rattle.std.{proofs.{Common.{◌≡◌, zero, suc, Bool, true, List, [], ◌∷◌, ◌++◌, refl, arith}, lemmas.{List.Sorted.All-permutation, Bool.and_from}}, specs.{Prelude.{IsTrue, map, filter}, List.{All, list_all, Sorted.IsPermutation}}}
use Rattle.lists.{specs.Elements.{Each, EachPair, all_pairs}, proofs.Tests.{left_true, right_true}}

pub each_append : {A : Type 0} (P : A → Type 0) (xs ys : List A) → Each P xs → Each P ys → Each P (xs ++ ys)
each_append P [] ys h k = k
each_append P (x ∷ xs) ys h k = (h.0, each_append P xs ys h.1 k)

pub each_parts : {A : Type 0} (P : A → Type 0) (xs ys : List A) → Each P (xs ++ ys) → Each P xs × Each P ys
each_parts P [] ys h = (tt, h)
each_parts P (x ∷ xs) ys h = let more = each_parts P xs ys h.1 in ((h.0, more.0), more.1)

pub each_map : {A : Type 0} (P Q : A → Type 0) (xs : List A) → ((x : A) → P x → Q x) → Each P xs → Each Q xs
each_map P Q [] f h = tt
each_map P Q (x ∷ xs) f h = (f x h.0, each_map P Q xs f h.1)

pub each_both : {A : Type 0} (P Q : A → Type 0) (xs : List A) → Each P xs → Each Q xs → Each (λ x. P x × Q x) xs
each_both P Q [] h k = tt
each_both P Q (x ∷ xs) h k = ((h.0, k.0), each_both P Q xs h.1 k.1)

pub each_test : {A : Type 0} (p : A → Bool) (xs : List A) → list_all p xs ≡ true → Each (λ x. IsTrue (p x)) xs
each_test p [] h = tt
each_test p (x ∷ xs) h = (left_true (p x) (list_all p xs) h, each_test p xs (right_true (p x) (list_all p xs) h))

pub pairs_test : {A : Type 0} (p : A → A → Bool) (xs : List A) → all_pairs p xs ≡ true → EachPair (λ x y. IsTrue (p x y)) xs
pairs_test p [] h = tt
pairs_test p (x ∷ xs) h = grind (arith, each_test, left_true, right_true, pairs_test p xs)

pub all-each : {A : Type 0} (P : A → Type 0) (xs : List A) → Each P xs → All P xs
all-each P [] h k d lt = absurd (omega arith)
all-each P (x ∷ xs) h zero d lt = h.0
all-each P (x ∷ xs) h (suc k) d lt = all-each P xs h.1 k d (omega arith)

pub each-all : {A : Type 0} (P : A → Type 0) (xs : List A) → All P xs → Each P xs
each-all P [] h = tt
each-all P (x ∷ xs) h = (h 0 x (omega arith), each-all P xs (λ k d lt. h (suc k) d (omega arith)))

pub each_permutation : {A : Type 0} (P : A → Type 0) (xs ys : List A) → IsPermutation xs ys → Each P xs → Each P ys
each_permutation P xs ys h e = each-all P ys (All-permutation P xs ys h (all-each P xs e))

pub test_each : {A : Type 0} (p : A → Bool) (xs : List A) → Each (λ x. IsTrue (p x)) xs → list_all p xs ≡ true
test_each p [] h = refl
test_each p (x ∷ xs) h = and_from (p x) (list_all p xs) h.0 (test_each p xs h.1)

pub test_pairs : {A : Type 0} (p : A → A → Bool) (xs : List A) → EachPair (λ x y. IsTrue (p x y)) xs → all_pairs p xs ≡ true
test_pairs p [] h = refl
test_pairs p (x ∷ xs) h = and_from (list_all (p x) xs) (all_pairs p xs) (test_each (p x) xs h.0) (test_pairs p xs h.1)

pub pairs_map : {A : Type 0} (R S : A → A → Type 0) (xs : List A) → ((x y : A) → R x y → S x y) → EachPair R xs → EachPair S xs
pairs_map R S [] f h = tt
pairs_map R S (x ∷ xs) f h = (each_map (R x) (S x) xs (f x) h.0, pairs_map R S xs f h.1)

pub each_of_map : {A B : Type 0} (P : B → Type 0) (f : A → B) (xs : List A) → Each (λ x. P (f x)) xs → Each P (map f xs)
each_of_map P f [] h = tt
each_of_map P f (x ∷ xs) h = (h.0, each_of_map P f xs h.1)

pub each_from_map : {A B : Type 0} (P : B → Type 0) (f : A → B) (xs : List A) → Each P (map f xs) → Each (λ x. P (f x)) xs
each_from_map P f [] h = tt
each_from_map P f (x ∷ xs) h = (h.0, each_from_map P f xs h.1)

pub pairs_from_map : {A B : Type 0} (R : B → B → Type 0) (f : A → B) (xs : List A) → EachPair R (map f xs) → EachPair (λ x y. R (f x) (f y)) xs
pairs_from_map R f [] h = tt
pairs_from_map R f (x ∷ xs) h = (each_from_map (R (f x)) f xs h.0, pairs_from_map R f xs h.1)

pub each_filter : {A : Type 0} (P : A → Type 0) (p : A → Bool) (xs : List A) → Each P xs → Each P (filter p xs)
each_filter P p [] h = tt
each_filter P p (x ∷ xs) h = grind (arith, each_filter P p xs)

pub filter_passes : {A : Type 0} (p : A → Bool) (xs : List A) → Each (λ x. p x ≡ true) (filter p xs)
filter_passes p [] = tt
filter_passes p (x ∷ xs) = grind (arith, filter_passes p xs)

-- ---- pairs

pub record PairParts {A : Type 0} (R : A → A → Type 0) (xs ys : List A) : Type 0 where
  pub first : EachPair R xs
  pub across : Each (λ x. Each (R x) ys) xs
  pub second : EachPair R ys

pub pair_parts : {A : Type 0} (R : A → A → Type 0) (xs ys : List A) → EachPair R (xs ++ ys) → PairParts R xs ys
pair_parts R [] ys h = record { first = tt; across = tt; second = h }
pair_parts R (x ∷ xs) ys h =
    let more = pair_parts R xs ys h.1 in
    let here = each_parts (R x) xs ys h.0 in
    record { first = (here.0, more.first); across = (here.1, more.across); second = more.second }

pub pairs_filter : {A : Type 0} (R : A → A → Type 0) (p : A → Bool) (xs : List A) → EachPair R xs → EachPair R (filter p xs)
pairs_filter R p [] h = tt
pairs_filter R p (x ∷ xs) h = grind (arith, each_filter, pairs_filter R p xs)

pub pairs_after : {A : Type 0} (R : A → A → Type 0) (xs : List A) (x : A) (ys : List A) → EachPair R (xs ++ x ∷ ys) → Each (R x) ys
pairs_after R [] x ys h = h.0
pairs_after R (y ∷ xs) x ys h = pairs_after R xs x ys h.1
