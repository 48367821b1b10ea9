-- Each layout reads what it writes, and nothing else.
use Rattle.std.{proofs.{Common.{◌≡◌, ◌<◌, ℕ, zero, suc, Bool, true, List, [], ◌∷◌, ◌++◌, length, Some, Option, refl, sym, ap, ◌∙◌, subst, append_assoc, append-nil, arith}, lemmas.{Bool.{and_from, eqb-true}, Option.same_Some}}, specs.Prelude.{flat_map, nat_le, option_and_then, IsTrue}}
use Rattle.lists.proofs.{EachLemmas.each_append, Tests.{left_true, right_true}}
use Rattle.model_images.{specs.{Layouts.{Layout, Parsed, parsed, number, checked, through, paired, parse_next, followed, both, exactly, fit_times, before, parse_times, repeated, counted, first_of, at_most_one, optional, if_no_rest, whole}, ByteLaws.{AreBytes, Spells, IsLayout}}, proofs.{Options.{from_next, from_map}, Numbers.number_is}}

-- ---- values that pass, and values seen as others

module _ {A : Type 0} (L : Layout A) (l : IsLayout L) where
  pub checked_is : (test : A → Bool) → IsLayout (checked test L)
  checked_is test = grind (arith, left_true, right_true, from_next, same_Some, and_from)

  module _ {B : Type 0} (to : A → B) (from : B → A) where
    pub through_is : ((y : B) → to (from y) ≡ y) → ((x : A) → IsTrue (L.fits x) → from (to x) ≡ x) → IsLayout (through to from L)
    through_is back same = grind (arith, from_map)

    -- the same, where only the values that pass a test can be seen back
    pub checked_through_is : (test : B → Bool) → ((y : B) → test y ≡ true → to (from y) ≡ y) → ((x : A) → IsTrue (L.fits x) → from (to x) ≡ x)
        → IsLayout (checked test (through to from L))
    checked_through_is test back same = grind (arith, from_next, from_map, left_true, right_true, and_from, same_Some)

-- ---- one value after another

module _ {A B : Type 0} (L : Layout A) (M : A → Layout B) (l : IsLayout L) (m : (x : A) → IsLayout (M x)) where
  pub followed_spells : (bs : List ℕ) (q : Parsed A) (r : Parsed B) → Spells L bs q → Spells (M q.value) q.rest r → Spells (followed L M) bs (paired q.value r)
  followed_spells bs q r s t = grind (arith, and_from, append_assoc)

  pub followed_is : IsLayout (followed L M)
  followed_is = grind (arith, each_append, append_assoc, left_true, right_true, from_next (parse_next M), from_map, followed_spells)

pub both_is : {A B : Type 0} (L : Layout A) (M : Layout B) → IsLayout L → IsLayout M → IsLayout (both L M)
both_is L M l m = followed_is L (λ x. M) l (λ x. m)

pub exactly_is : (k n : ℕ) → IsLayout (exactly k n)
exactly_is k n = grind (arith, through_is, checked_is, number_is, eqb-true, right_true)

-- ---- many values

module _ {A : Type 0} (L : Layout A) (l : IsLayout L) where
  times_bytes : (xs : List A) → AreBytes (flat_map L.bytes xs)
  times_bytes [] = tt
  times_bytes (x ∷ xs) = each_append (λ b. b < 256) (L.bytes x) (flat_map L.bytes xs) (l.are_bytes x) (times_bytes xs)

  times_again : (n : ℕ) (xs : List A) (rest : List ℕ) → fit_times L.fits n xs ≡ true → parse_times L.parse n (flat_map L.bytes xs ++ rest) ≡ Some (parsed xs rest)
  times_again zero [] rest h = refl
  times_again (suc n) (x ∷ xs) rest h = grind (arith, append_assoc, left_true, right_true, times_again n xs rest)
  times_again n xs rest h = cc

  pub times_more : (n : ℕ) (bs : List ℕ) (q : Parsed A) (r : Parsed (List A)) → Spells L bs q → Spells (repeated n L) q.rest r → Spells (repeated (suc n) L) bs (before q.value r)
  times_more n bs q r s t = grind (arith, and_from, append_assoc)

  times_spells : (n : ℕ) (bs : List ℕ) (p : Parsed (List A)) → parse_times L.parse n bs ≡ Some p → Spells (repeated n L) bs p
  times_spells zero bs p h = subst (Spells (repeated 0 L) bs) (same_Some (parsed [] bs) p h) (record { fits = refl; bytes = refl })
  times_spells (suc n) bs p h = grind (arith, from_next, L.parse bs, from_map, times_more n bs, l.spells bs, times_spells n)

  pub repeated_is : (n : ℕ) → IsLayout (repeated n L)
  repeated_is n = record { are_bytes = times_bytes; again = times_again n; spells = times_spells n }

  pub fit_count : (n : ℕ) (xs : List A) → fit_times L.fits n xs ≡ true → length xs ≡ n
  fit_count zero [] h = refl
  fit_count (suc n) (x ∷ xs) h = ap suc (fit_count n xs (right_true (L.fits x) (fit_times L.fits n xs) h))
  fit_count n xs h = cc

  pub counted_is : (k : ℕ) → IsLayout (counted k L)
  counted_is k =
      through_is (followed (number k) (λ n. repeated n L)) (followed_is (number k) (λ n. repeated n L) (number_is k) repeated_is) (λ x. x.1) (λ xs. (length xs, xs)) (λ xs. refl)
      (λ x h. ap (λ n. (n, x.1)) (fit_count x.0 x.1 (right_true ((number k).fits x.0) (fit_times L.fits x.0 x.1) h)))

  abbrev short : Layout (List A)
  short = checked (λ xs. nat_le (length xs) 1) (counted 1 L)

  one_back : (o : Option A) → first_of (at_most_one o) ≡ o
  one_back o = grind arith

  one_same : (xs : List A) → nat_le (length xs) 1 ≡ true → at_most_one (first_of xs) ≡ xs
  one_same [] h = refl
  one_same (x ∷ []) h = refl
  one_same (x ∷ y ∷ zs) h = grind arith

  pub optional_is : IsLayout (optional L)
  optional_is =
      through_is short (checked_is (counted 1 L) (counted_is 1) (λ xs. nat_le (length xs) 1)) first_of at_most_one one_back
      (λ xs h. one_same xs (right_true ((counted 1 L).fits xs) (nat_le (length xs) 1) h))

-- ---- all the bytes

module _ {A : Type 0} (L : Layout A) (l : IsLayout L) where
  pub whole_again : (x : A) → IsTrue (L.fits x) → whole L (L.bytes x) ≡ Some x
  whole_again x h =
      ap (λ (bs : List ℕ). whole L bs) (sym (append-nil (L.bytes x))) ∙ ap (option_and_then (λ (p : Parsed A). if_no_rest p.value p.rest)) (l.again x [] h)

  pub whole_spells : (bs : List ℕ) (x : A) → whole L bs ≡ Some x → (bs ≡ L.bytes x) × IsTrue (L.fits x)
  whole_spells bs x h = grind (arith, from_next, L.parse bs, l.spells bs, L.fits, same_Some, append-nil, L.bytes)
