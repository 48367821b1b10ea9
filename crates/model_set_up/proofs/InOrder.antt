-- Items in order: which they are, and that none stands before one ahead of it.
use Rattle.std.proofs.{Common.{◌≡◌, ◌⊎◌, inl, inr, Bool, true, false, cond, List, [], ◌∷◌, refl, sym, subst, arith}, lemmas.Bool.Decides.nat_tests}
use Rattle.lists.{specs.Elements.{Each, EachPair, IsIn}, proofs.Members.{each_in, each_from}}
use Rattle.model_set_up.specs.Placement.{PlacementItem, stands_before, inserted, in_order}

in_inserted : (x i : PlacementItem) (js : List PlacementItem) → (x ≡ i) ⊎ IsIn x js → IsIn x (inserted i js)
in_inserted x i [] m = m
in_inserted x i (j ∷ js) m = grind (arith, in_inserted x i js)

pub from_inserted : (x i : PlacementItem) (js : List PlacementItem) → IsIn x (inserted i js) → (x ≡ i) ⊎ IsIn x js
from_inserted x i [] m = m
from_inserted x i (j ∷ js) m = grind (arith, from_inserted x i js)

pub in_in_order : (x : PlacementItem) (is : List PlacementItem) → IsIn x is → IsIn x (in_order is)
in_in_order x [] m = m
in_in_order x (i ∷ is) m = grind (arith, in_inserted, in_in_order x is)

pub from_in_order : (x : PlacementItem) (is : List PlacementItem) → IsIn x (in_order is) → IsIn x is
from_in_order x [] m = m
from_in_order x (i ∷ is) m = grind (arith, from_inserted, from_in_order x is)

-- what holds of each item holds of them in order
pub each_in_order : (P : PlacementItem → Type 0) (is : List PlacementItem) → Each P is → Each P (in_order is)
each_in_order P is h = each_from P (in_order is) (λ x m. each_in P x is h (from_in_order x is m))

-- ---- the order

abbrev pub NotBefore : PlacementItem → PlacementItem → Type 0
NotBefore i j = stands_before j i ≡ false

pub not_before_trans : (i j k : PlacementItem) → NotBefore i j → NotBefore j k → NotBefore i k
not_before_trans i j k h l = grind (arith, nat_tests)

pub one_way : (i j : PlacementItem) → stands_before i j ≡ true → stands_before j i ≡ false
one_way i j h = grind (arith, nat_tests)

inserted_sorted : (i : PlacementItem) (js : List PlacementItem) → EachPair NotBefore js → EachPair NotBefore (inserted i js)
inserted_sorted i [] h = (tt, tt)
inserted_sorted i (j ∷ js) h = by_test (stands_before j i) refl (inserted_sorted i js h.1)
  where
    after : stands_before j i ≡ true → (x : PlacementItem) → (x ≡ i) ⊎ IsIn x js → NotBefore j x
    after e x (inl same) = subst (NotBefore j) (sym same) (one_way j i e)
    after e x (inr m) = each_in (NotBefore j) x js h.0 m

    by_test : (t : Bool) → stands_before j i ≡ t → EachPair NotBefore (inserted i js) → EachPair NotBefore (cond t (j ∷ inserted i js) (i ∷ j ∷ js))
    by_test true e more = (each_from (NotBefore j) (inserted i js) (λ x m. after e x (from_inserted x i js m)), more)
    by_test false e more = ((e, each_from (NotBefore i) js (λ x m. not_before_trans i j x e (each_in (NotBefore j) x js h.0 m))), h)

pub order_pairs : (is : List PlacementItem) → EachPair NotBefore (in_order is)
order_pairs [] = tt
order_pairs (i ∷ is) = inserted_sorted i (in_order is) (order_pairs is)
