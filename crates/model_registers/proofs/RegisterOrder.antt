-- A sort of regions by register gives the regions in register order, and lawful ones.
use Rattle.std.{proofs.{Common.{◌≡◌, ℕ, zero, suc, ◌+◌, ◌-◌, ◌<◌, ◌≤◌, Bool, true, false, ◌&&◌, cond, List, [], ◌∷◌, ◌++◌, length, get_or, eqb, leb, ltb, refl, sym, ap, ap₂, ◌∙◌, arith}, lemmas.{Bool.{false≢true, leb-true, le-leb, and_from, Decides.nat_tests}, List.{Sorted.sum_by-IsPermutation, Sums.{sum_by-cons, sum_by-le-sum_by, length-filter}}}}, specs.{Prelude.{IsTrue, count_by}, List.{filter, list_all, Sorted.{IsPermutation, IsNonDecreasingBy}}}}
use Rattle.lists.{specs.Elements.{Each, EachPair}, proofs.{EachLemmas.{each_map, each_both, each_test, each_permutation, test_each, pairs_map}, Tests.{left_true, right_true}}}
use Rattle.model_registers.specs.{Declarations.{io_kind, mem32, mem64, Region, registers_of, IsLawfulRegion, HasLawfulRegions}, DeclarationRules.{uses, has_own_registers, in_register_order}}

abbrev stands_at : ℕ → Region → Bool
stands_at n r = eqb r.index n

abbrev IsAscending : List Region → Type 0
IsAscending rs = EachPair (λ (r s : Region). r.index ≤ s.index) rs

-- the regions of k registers from a on, register by register
abbrev from_register : ℕ → ℕ → List Region → List Region
from_register a zero rs = []
from_register a (suc k) rs = filter (stands_at a) rs ++ from_register (a + 1) k rs

none_there : (a : ℕ) (rs : List Region) → Each (λ (r : Region). a < r.index) rs → filter (stands_at a) rs ≡ []
none_there a [] h = refl
none_there a (r ∷ rs) h = grind (arith, none_there a rs, nat_tests)

past_first : (k a : ℕ) (r : Region) (rs : List Region) → r.index < a → from_register a k (r ∷ rs) ≡ from_register a k rs
past_first zero a r rs h = refl
past_first (suc k) a r rs h = grind (arith, nat_tests, past_first k (a + 1) r rs)

splits : (k a : ℕ)
    → ((rs : List Region) → IsAscending rs → Each (λ (r : Region). a < r.index) rs → Each (λ (r : Region). r.index < a + suc k) rs → rs ≡ from_register (a + 1) k rs)
    → (rs : List Region) → IsAscending rs → Each (λ (r : Region). a ≤ r.index) rs → Each (λ (r : Region). r.index < a + suc k) rs → rs ≡ filter (stands_at a) rs ++ from_register (a + 1) k rs
splits k a others [] up low high = grind arith
splits k a others (r ∷ rs) up low high = grind (arith, splits k a others rs, nat_tests, past_first, none_there, each_map)

in_order_from : (k a : ℕ) (rs : List Region) → IsAscending rs → Each (λ (r : Region). a ≤ r.index) rs → Each (λ (r : Region). r.index < a + k) rs → rs ≡ from_register a k rs
in_order_from zero a [] up low high = refl
in_order_from zero a (r ∷ rs) up low high = let l : a ≤ r.index = low.0 in let h : r.index < a + 0 = high.0 in absurd (omega arith)
in_order_from (suc k) a rs up low high = grind (arith, splits, each_map, in_order_from k (a + 1))

-- ---- a permutation keeps a filter that finds one region at most

abbrev counted : Bool → ℕ
counted t = cond t 1 0

none_found_cases : (p : Region → Bool) (r : Region) (rs : List Region) (t : Bool) → p r ≡ t → count_by p (r ∷ rs) ≡ 0 → (t ≡ false) × (count_by p rs ≡ 0)
none_found_cases p r rs true e h = absurd (omega (arith, sum_by-cons (λ x. counted (p x)) r rs, ap counted e))
none_found_cases p r rs false e h = (refl, omega (arith, sum_by-cons (λ x. counted (p x)) r rs))

none_found : (p : Region → Bool) (rs : List Region) → count_by p rs ≡ 0 → Each (λ (r : Region). p r ≡ false) rs
none_found p [] h = tt
none_found p (r ∷ rs) h = let c = none_found_cases p r rs (p r) refl h in (c.0, none_found p rs c.1)

others_none : (p : Region → Bool) (r : Region) (rs : List Region) → p r ≡ true → count_by p (r ∷ rs) ≤ 1 → count_by p rs ≡ 0
others_none p r rs e h = omega (arith, sum_by-cons (λ x. counted (p x)) r rs, ap counted e)

empty_filter : (p : Region → Bool) (rs : List Region) → Each (λ (r : Region). p r ≡ false) rs → filter p rs ≡ []
empty_filter p [] h = refl
empty_filter p (r ∷ rs) h = let e : p r ≡ false = h.0 in rw e (empty_filter p rs h.1)

only_cases : (p : Region → Bool) (r x : Region) (xs : List Region) (t : Bool) → p x ≡ t → cond t (x ∷ filter p xs) (filter p xs) ≡ r ∷ []
    → (filter p xs ≡ r ∷ [] → Each (λ (y : Region). p y ≡ true → y ≡ r) xs) → Each (λ (y : Region). p y ≡ true → y ≡ r) (x ∷ xs)
only_cases p r x xs t e h more = grind (arith, length-filter p xs, each_map, false≢true, none_found p xs)

only : (p : Region → Bool) (r : Region) (xs : List Region) → filter p xs ≡ r ∷ [] → Each (λ (y : Region). p y ≡ true → y ≡ r) xs
only p r [] h = tt
only p r (x ∷ xs) h = only_cases p r x xs (p x) refl h (only p r xs)

found : (p : Region → Bool) (r : Region) (ys : List Region) → Each (λ (y : Region). p y ≡ true → y ≡ r) ys → count_by p ys ≡ 1 → filter p ys ≡ r ∷ []
found p r [] all h = cc
found p r (y ∷ ys) all h = grind (arith, found p r ys, empty_filter, none_found, others_none, sum_by-cons)

same_filter_cases : (p : Region → Bool) (xs ys : List Region) → IsPermutation xs ys → (zs : List Region) → filter p xs ≡ zs → length zs ≤ 1 → filter p ys ≡ zs
same_filter_cases p xs ys perm [] e short =
    let count : count_by p ys ≡ 0 = sum_by-IsPermutation (λ x. counted (p x)) xs ys perm ∙ sym (length-filter p xs) ∙ ap length e in
    empty_filter p ys (none_found p ys count)
same_filter_cases p xs ys perm (r ∷ []) e short = grind (arith, sum_by-IsPermutation, length-filter p xs, found p r ys, each_permutation, only p r xs e)
same_filter_cases p xs ys perm (r ∷ s ∷ zs) e short = absurd (omega arith)

same_filter : (p : Region → Bool) (xs ys : List Region) → IsPermutation xs ys → count_by p xs ≤ 1 → filter p ys ≡ filter p xs
same_filter p xs ys perm h = same_filter_cases p xs ys perm (filter p xs) refl (omega (arith, length-filter p xs))

-- ---- what the rules say of registers

at_least_one : (r : Region) → 1 ≤ registers_of r.kind
at_least_one r = elim r.kind as (λ k. 1 ≤ registers_of k) [ io_kind ↦ omega arith | mem32 pref ↦ omega arith | mem64 pref ↦ omega arith ]

at_most_two : (r : Region) → registers_of r.kind ≤ 2
at_most_two r = elim r.kind as (λ k. registers_of k ≤ 2) [ io_kind ↦ omega arith | mem32 pref ↦ omega arith | mem64 pref ↦ omega arith ]

stands_once : (n : ℕ) (rs : List Region) → count_by (uses n) rs ≤ 1 → count_by (stands_at n) rs ≤ 1
stands_once n rs h = grind (arith, sum_by-le-sum_by, at_least_one, nat_tests)

abbrev UsesOnce : List Region → Type 0
UsesOnce rs = (n : ℕ) → n < 6 → count_by (uses n) rs ≤ 1

each_used_once : (rs : List Region) → Each (λ (n : ℕ). IsTrue (leb (count_by (uses n) rs) 1)) (0 ∷ 1 ∷ 2 ∷ 3 ∷ 4 ∷ 5 ∷ []) → UsesOnce rs
each_used_once rs h zero lt = leb-true _ _ h.0
each_used_once rs h (suc zero) lt = leb-true _ _ h.1.0
each_used_once rs h (suc (suc zero)) lt = leb-true _ _ h.1.1.0
each_used_once rs h (suc (suc (suc zero))) lt = leb-true _ _ h.1.1.1.0
each_used_once rs h (suc (suc (suc (suc zero)))) lt = leb-true _ _ h.1.1.1.1.0
each_used_once rs h (suc (suc (suc (suc (suc zero))))) lt = leb-true _ _ h.1.1.1.1.1.0
each_used_once rs h (suc (suc (suc (suc (suc (suc n)))))) lt = absurd (omega arith)

used_once : (rs : List Region) → has_own_registers rs ≡ true → UsesOnce rs
used_once rs h =
    each_used_once rs
    (grind (arith, each_test, right_true))

used_once_after : (xs ys : List Region) → IsPermutation xs ys → UsesOnce xs → UsesOnce ys
used_once_after xs ys perm once n lt = rw (sum_by-IsPermutation (λ r. counted (uses n r)) xs ys perm) (once n lt)

pub in_header : (rs : List Region) → has_own_registers rs ≡ true → Each (λ (r : Region). r.index + registers_of r.kind ≤ 6) rs
in_header rs h =
    each_map (λ (r : Region). IsTrue (leb (r.index + registers_of r.kind) 6)) (λ r. r.index + registers_of r.kind ≤ 6) rs (λ r p. leb-true _ _ p)
    (each_test (λ r. leb (r.index + registers_of r.kind) 6) rs
    (left_true (list_all (λ (r : Region). leb (r.index + registers_of r.kind) 6) rs) (list_all (λ n. leb (count_by (uses n) rs) 1) (0 ∷ 1 ∷ 2 ∷ 3 ∷ 4 ∷ 5 ∷ [])) h))

-- ---- sorted regions

not_less : (r : Region) (rs : List Region) → ((k : ℕ) (d : Region) → k < length rs → r.index ≤ (get_or rs k d).index) → Each (λ (s : Region). r.index ≤ s.index) rs
not_less r [] h = tt
not_less r (s ∷ rs) h = (h 0 s (omega arith), not_less r rs (λ k d lt. h (suc k) d (omega arith)))

ascending : (rs : List Region) → IsNonDecreasingBy (λ (r : Region). r.index) rs → IsAscending rs
ascending [] h = tt
ascending (r ∷ rs) h =
    (not_less r rs (λ k d lt. h 0 (suc k) d (omega arith) (omega arith)), ascending rs (λ i j d le lt. h (suc i) (suc j) d (omega arith) (omega arith)))

after_unused : (i m j k : ℕ) → 1 ≤ m → m ≤ 2 → 1 ≤ k → i ≤ j → (leb j i && ltb i (j + k)) ≡ false → (leb j (i + m - 1) && ltb (i + m - 1) (j + k)) ≡ false → i + m ≤ j
after_unused i m j k a b c d e f = grind (arith, nat_tests)

unused_later : (n : ℕ) (r : Region) (rs : List Region) → uses n r ≡ true → n < 6 → UsesOnce (r ∷ rs) → Each (λ (s : Region). uses n s ≡ false) rs
unused_later n r rs e lt once = none_found (uses n) rs (others_none (uses n) r rs e (once n lt))

uses_first : (r : Region) → uses r.index r ≡ true
uses_first r = let some : 1 ≤ registers_of r.kind = at_least_one r in grind (arith, nat_tests)

uses_last : (r : Region) → uses (r.index + registers_of r.kind - 1) r ≡ true
uses_last r = let some : 1 ≤ registers_of r.kind = at_least_one r in grind (arith, nat_tests)

fewer_uses : (r : Region) (rs : List Region) → UsesOnce (r ∷ rs) → UsesOnce rs
fewer_uses r rs once n lt = omega (arith, sum_by-cons (λ s. counted (uses n s)) r rs, once n lt)

registers_in_order : (rs : List Region) → IsAscending rs → UsesOnce rs → Each (λ (r : Region). r.index + registers_of r.kind ≤ 6) rs
    → EachPair (λ (r s : Region). r.index + registers_of r.kind ≤ s.index) rs
registers_in_order [] up once fits = tt
registers_in_order (r ∷ rs) up once fits =
    let some : 1 ≤ registers_of r.kind = at_least_one r in
    let inside : r.index + registers_of r.kind ≤ 6 = fits.0 in
    let not_first = unused_later r.index r rs (uses_first r) (omega arith) once in
    let not_last = unused_later (r.index + registers_of r.kind - 1) r rs (uses_last r) (omega arith) once in
    let not_before = up.0 in (
      each_map (λ (s : Region). (r.index ≤ s.index) × ((uses r.index s ≡ false) × (uses (r.index + registers_of r.kind - 1) s ≡ false))) (λ s. r.index + registers_of r.kind ≤ s.index) rs
          (λ s p. after_unused r.index (registers_of r.kind) s.index (registers_of s.kind) some (at_most_two r) (at_least_one s) p.0 p.1.0 p.1.1)
          (each_both (λ (s : Region). r.index ≤ s.index) (λ s. (uses r.index s ≡ false) × (uses (r.index + registers_of r.kind - 1) s ≡ false)) rs not_before
          (each_both (λ (s : Region). uses r.index s ≡ false) (λ s. uses (r.index + registers_of r.kind - 1) s ≡ false) rs not_first not_last)),
      registers_in_order rs up.1 (fewer_uses r rs once) fits.1,
    )

-- what a sort by register gives of regions with registers of their own
pub sorted_are_lawful : (xs ys : List Region) → IsPermutation xs ys → IsNonDecreasingBy (λ (r : Region). r.index) ys → has_own_registers xs ≡ true → Each IsLawfulRegion xs → HasLawfulRegions ys
sorted_are_lawful xs ys perm sorted own lawful = record {
  each = each_permutation IsLawfulRegion xs ys perm lawful;
  in_order =
      registers_in_order ys (ascending ys sorted) (used_once_after xs ys perm (used_once xs own))
      (each_permutation (λ (r : Region). r.index + registers_of r.kind ≤ 6) xs ys perm (in_header xs own));
}

same_from : (xs ys : List Region) → IsPermutation xs ys → UsesOnce xs → (k a : ℕ) → a + k ≤ 6 → from_register a k ys ≡ from_register a k xs
same_from xs ys perm once zero a h = refl
same_from xs ys perm once (suc k) a h =
    ap₂ (λ (x y : List Region). x ++ y) (same_filter (stands_at a) xs ys perm (stands_once a xs (once a (omega arith))))
    (same_from xs ys perm once k (a + 1) (omega arith))

pub sorted_is_in_register_order : (xs ys : List Region) → IsPermutation xs ys → IsNonDecreasingBy (λ (r : Region). r.index) ys → has_own_registers xs ≡ true → ys ≡ in_register_order xs
sorted_is_in_register_order xs ys perm sorted own =
    let below : Each (λ (r : Region). r.index < 0 + 6) ys = each_map (λ (r : Region). r.index + registers_of r.kind ≤ 6) (λ r. r.index < 0 + 6) ys
    (λ r p. let some : 1 ≤ registers_of r.kind = at_least_one r in omega arith)
    (each_permutation (λ (r : Region). r.index + registers_of r.kind ≤ 6) xs ys perm (in_header xs own)) in
    grind (arith, in_order_from 6 0 ys (ascending ys sorted), ascending ys sorted, each_map, same_from xs ys perm (used_once xs own) 6 0, used_once xs own)

-- ---- lawful regions have registers of their own, and stand in order

used_once_cases : (n : ℕ) (r : Region) (rs : List Region) (t : Bool) → uses n r ≡ t → Each (λ (s : Region). r.index + registers_of r.kind ≤ s.index) rs
    → count_by (uses n) rs ≤ 1 → count_by (uses n) (r ∷ rs) ≤ 1
used_once_cases n r rs true e after once =
    let unused : Each (λ (s : Region). uses n s ≡ false) rs = grind (arith, each_map) in
    let none : count_by (uses n) rs ≡ 0 = sym (length-filter (uses n) rs) ∙ ap length (empty_filter (uses n) rs unused) in
    omega (arith, sum_by-cons (λ s. counted (uses n s)) r rs, ap counted e)
used_once_cases n r rs false e after once = omega (arith, sum_by-cons (λ s. counted (uses n s)) r rs, ap counted e)

used_once_in_order : (n : ℕ) (rs : List Region) → EachPair (λ (r s : Region). r.index + registers_of r.kind ≤ s.index) rs → count_by (uses n) rs ≤ 1
used_once_in_order n [] h = omega arith
used_once_in_order n (r ∷ rs) h = used_once_cases n r rs (uses n r) refl h.0 (used_once_in_order n rs h.1)

each_number : (P : ℕ → Type 0) → ((n : ℕ) → P n) → Each P (0 ∷ 1 ∷ 2 ∷ 3 ∷ 4 ∷ 5 ∷ [])
each_number P h = (h 0, (h 1, (h 2, (h 3, (h 4, (h 5, tt))))))

pub lawful_have_own_registers : (rs : List Region) → HasLawfulRegions rs → has_own_registers rs ≡ true
lawful_have_own_registers rs lawful =
    and_from (list_all (λ (r : Region). leb (r.index + registers_of r.kind) 6) rs) (list_all (λ n. leb (count_by (uses n) rs) 1) (0 ∷ 1 ∷ 2 ∷ 3 ∷ 4 ∷ 5 ∷ []))
    (grind (arith, test_each, each_map, le-leb))
    (test_each (λ n. leb (count_by (uses n) rs) 1) (0 ∷ 1 ∷ 2 ∷ 3 ∷ 4 ∷ 5 ∷ [])
    (each_number (λ n. IsTrue (leb (count_by (uses n) rs) 1)) (λ n. le-leb _ _ (used_once_in_order n rs lawful.in_order))))

pub lawful_are_in_register_order : (rs : List Region) → HasLawfulRegions rs → in_register_order rs ≡ rs
lawful_are_in_register_order rs lawful = grind (arith, pairs_map, each_map IsLawfulRegion, at_least_one, in_order_from 6 0 rs, each_map)
