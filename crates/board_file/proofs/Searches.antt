-- Searches of lists that find nothing, and lists that are not empty.
use Rattle.std.{proofs.{Common.{◌≡◌, ◌≢◌, inl, inr, ◌≤◌, Bool, false, List, [], ◌∷◌, ◌++◌, length, None, refl, arith}}, specs.List.{position, position_or_len}}
use Rattle.lists.specs.Elements.{IsIn}

passed : {A : Type 0} (p : A → Bool) (xs : List A) (x : A) → IsIn x xs → length xs ≤ position_or_len p xs → p x ≡ false
passed p [] x m h = absurd m
passed p (y ∷ ys) x (inl e) h = grind arith
passed p (y ∷ ys) x (inr m) h = grind (arith, passed p ys x m)

-- where no position is found, each element fails
pub position_none : {A : Type 0} (p : A → Bool) (xs : List A) (x : A) → IsIn x xs → position p xs ≡ None → p x ≡ false
position_none p xs x m h = grind (arith, passed)

pub not_empty : {A : Type 0} (x : A) (xs : List A) → x ∷ xs ≢ []
not_empty x xs e = cc

pub both_empty : {A : Type 0} (xs ys : List A) → xs ++ ys ≡ [] → (xs ≡ []) × (ys ≡ [])
both_empty [] ys e = (refl, e)
both_empty (x ∷ xs) ys e = absurd (not_empty x (xs ++ ys) e)
