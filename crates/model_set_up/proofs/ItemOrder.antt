-- Items in order are a sorted permutation, and on a bus the only one.
use Rattle.std.{proofs.{Common.{◌≡◌, ℕ, zero, suc, ◌<◌, ◌⊎◌, inl, inr, Bool, true, false, ◌&&◌, cond, List, [], ◌∷◌, length, refl, sym, ap₂, ◌∙◌, subst, arith, eqb, IsPermutation, get_or, add-one, rules}, lemmas.{Bool.Decides.nat_tests, List.Sorted.{IsPermutation-refl, IsPermutation-cons, IsPermutation-swap, IsPermutation-trans, IsPermutation-sym}, Map.Keys.IsDistinct-IsPermutation}}, specs.List.IsDistinct}
use Rattle.lists.{specs.Elements.{EachPair, IsIn}, proofs.{Members.{each_in, each_from}, EachLemmas.each_permutation}}
use Rattle.model_board.{specs.{Paths.{Path, part_eq}, Board.{Board, IsBoard}, Lawful.HasLawfulDecls}, proofs.PathOrder.part_self}
use Rattle.model_set_up.{specs.{Pools.Pool, Placement.{PlacementItem, register_of, stands_before, inserted, in_order, items_on}, OrderLaws.{IsInOrder, OrderIsSorted, OneOrder}}, proofs.{InOrder.{NotBefore, not_before_trans, one_way, order_pairs}, Items.{pairs_in_order, items_pairs}}}
use Rattle.model_registers.specs.Apertures.{Apertures}

-- of one function and register
abbrev is_same : PlacementItem → PlacementItem → Bool
is_same i j = part_eq i.part j.part && eqb (register_of i.what) (register_of j.what)

abbrev pub Strictly : PlacementItem → PlacementItem → Type 0
Strictly i j = stands_before i j ≡ true

strictly : (i j : PlacementItem) → NotBefore i j → is_same i j ≡ false → Strictly i j
strictly i j h k = grind (arith, nat_tests)

is_same-sym : (i j : PlacementItem) → is_same i j ≡ is_same j i
is_same-sym i j = grind (arith, nat_tests)

-- ---- a permutation

inserted_moves : (i : PlacementItem) (js : List PlacementItem) → IsPermutation (i ∷ js) (inserted i js)
inserted_moves i [] = IsPermutation-refl (i ∷ [])
inserted_moves i (j ∷ js) = by_test (stands_before j i) (inserted_moves i js)
  where
    turned : IsPermutation (i ∷ j ∷ js) (j ∷ i ∷ js)
    turned = IsPermutation-swap (i ∷ j ∷ js) (j ∷ i ∷ js) 0 1 (omega arith) (omega arith) refl

    by_test : (t : Bool) → IsPermutation (i ∷ js) (inserted i js) → IsPermutation (i ∷ j ∷ js) (cond t (j ∷ inserted i js) (i ∷ j ∷ js))
    by_test true more = IsPermutation-trans (i ∷ j ∷ js) (j ∷ i ∷ js) (j ∷ inserted i js) turned (IsPermutation-cons j (i ∷ js) (inserted i js) more)
    by_test false more = IsPermutation-refl (i ∷ j ∷ js)

order_moves : (is : List PlacementItem) → IsPermutation is (in_order is)
order_moves [] = IsPermutation-refl []
order_moves (i ∷ is) = IsPermutation-trans (i ∷ is) (i ∷ in_order is) (inserted i (in_order is)) (IsPermutation-cons i is (in_order is) (order_moves is)) (inserted_moves i (in_order is))

-- ---- sorted

-- by neighbours, and by all pairs
neighbours : (is : List PlacementItem) → EachPair NotBefore is → (k : ℕ) (d : PlacementItem) → suc k < length is → stands_before (get_or is (suc k) d) (get_or is k d) ≡ false
neighbours [] h k d l = absurd (omega arith)
neighbours (i ∷ []) h k d l = absurd (omega arith)
neighbours (i ∷ j ∷ is) h zero d l = h.0.0
neighbours (i ∷ j ∷ is) h (suc k) d l = neighbours (j ∷ is) h.1 k d (omega arith)

all_pairs : (is : List PlacementItem) → ((k : ℕ) (d : PlacementItem) → suc k < length is → stands_before (get_or is (suc k) d) (get_or is k d) ≡ false) → EachPair NotBefore is
all_pairs [] h = tt
all_pairs (i ∷ []) h = (tt, tt)
all_pairs (i ∷ j ∷ is) h =
    let rest : EachPair NotBefore (j ∷ is) = all_pairs (j ∷ is) (λ k d l. h (suc k) d (omega arith)) in
    let first : NotBefore i j = h 0 i (omega arith) in
    ((first, each_from (NotBefore i) is (λ x m. not_before_trans i j x first (each_in (NotBefore j) x is rest.0 m))), rest)

sorted_from : (is : List PlacementItem) → EachPair NotBefore is → IsInOrder is
sorted_from is h k d low l = rw add-one (neighbours is h k d (omega arith))

pairs_from : (is : List PlacementItem) → IsInOrder is → EachPair NotBefore is
pairs_from is h = all_pairs is (λ k d l. rw add-one at (h k d (omega arith) (omega arith)))

pub order_is_sorted : OrderIsSorted
order_is_sorted is = record { same = order_moves is; sorted = sorted_from (in_order is) (order_pairs is) }

-- ---- the only one

moved : (is js : List PlacementItem) → IsPermutation is js → (x : PlacementItem) → IsIn x js → IsIn x is
moved is js perm x m = each_in (λ y. IsIn y is) x js (each_permutation (λ y. IsIn y is) is js perm (each_from (λ y. IsIn y is) is (λ y k. k))) m

abbrev Ranked : PlacementItem → PlacementItem → Type 0
Ranked i j = is_same i j ≡ false

distinct_from : (is : List PlacementItem) → EachPair Ranked is → IsDistinct is_same is
unfolding IsDistinct
distinct_from [] h = tt
distinct_from (i ∷ is) h = grind (arith, distinct_from is h.1)

pairs_of : (is : List PlacementItem) → IsDistinct is_same is → EachPair Ranked is
unfolding IsDistinct
pairs_of [] h = tt
pairs_of (i ∷ is) h = grind (arith, pairs_of is h.1)

strict_pairs : (is : List PlacementItem) → EachPair NotBefore is → EachPair Ranked is → EachPair Strictly is
strict_pairs [] h k = tt
strict_pairs (i ∷ is) h k = (each_from (Strictly i) is (λ x m. strictly i x (each_in (NotBefore i) x is h.0 m) (each_in (Ranked i) x is k.0 m)), strict_pairs is h.1 k.1)

never : (i j : PlacementItem) → Strictly i j → Strictly j i → ⊥
never i j h k = let no : true ≡ false = sym k ∙ one_way i j h in cc

-- two strictly sorted lists of the same items are one
same_list : (xs ys : List PlacementItem) → EachPair Strictly xs → EachPair Strictly ys → ((x : PlacementItem) → IsIn x xs → IsIn x ys) → ((x : PlacementItem) → IsIn x ys → IsIn x xs) → xs ≡ ys
same_list [] [] h k to from = refl
same_list [] (y ∷ ys) h k to from = absurd (from y (inl refl))
same_list (x ∷ xs) [] h k to from = absurd (to x (inl refl))
same_list (x ∷ xs) (y ∷ ys) h k to from =
    let e : x ≡ y = heads (to x (inl refl)) (from y (inl refl)) in
    ap₂ ◌∷◌ e (same_list xs ys h.1 k.1 (λ z m. later_to e z m (to z (inr m))) (λ z m. later_from e z m (from z (inr m))))
  where
    heads : (x ≡ y) ⊎ IsIn x ys → (y ≡ x) ⊎ IsIn y xs → x ≡ y
    heads e n = grind (arith, never, each_in)

    later_to : x ≡ y → (z : PlacementItem) → IsIn z xs → (z ≡ y) ⊎ IsIn z ys → IsIn z ys
    later_to e z m (inr n) = n
    later_to e z m (inl f) = let loop : Strictly x x = subst (Strictly x) (f ∙ sym e) (each_in (Strictly x) z xs h.0 m) in absurd (never x x loop loop)

    later_from : x ≡ y → (z : PlacementItem) → IsIn z ys → (z ≡ x) ⊎ IsIn z xs → IsIn z xs
    later_from e z m h = grind (arith, each_in (Strictly y) z ys k.0 m, never y y)

ranked : (b : Board) (a : Apertures) (pool : Pool) (bus : Path) → IsBoard b → HasLawfulDecls b → EachPair Ranked (items_on b a pool bus)
ranked b a pool bus board lawful = grind (arith, items_pairs b a pool board Ranked, nat_tests, part_self)

-- the items of a bus stand in strict order
pub items_strict : (b : Board) (a : Apertures) (pool : Pool) (bus : Path) → IsBoard b → HasLawfulDecls b → EachPair Strictly (in_order (items_on b a pool bus))
items_strict b a pool bus board lawful = search (rules, strict_pairs, order_pairs, pairs_in_order, is_same-sym, ranked)

pub one_order : OneOrder
one_order b a pool bus board lawful js h =
    let is : List PlacementItem = items_on b a pool bus in
    let theirs : EachPair Strictly js = strict_pairs js (pairs_from js h.sorted) (pairs_of js (IsDistinct-IsPermutation is_same is_same-sym is js h.same (distinct_from is (ranked b a pool bus board lawful)))) in
    let to : IsPermutation js (in_order is) = IsPermutation-trans js is (in_order is) (IsPermutation-sym is js h.same) (order_moves is) in
    same_list js (in_order is) theirs (items_strict b a pool bus board lawful) (moved (in_order is) js (IsPermutation-sym js (in_order is) to)) (moved js (in_order is) to)
