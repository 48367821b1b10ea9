-- Where nothing is told of the elements of a list.
use Rattle.std.{proofs.Common.{◌≡◌, List, [], ◌∷◌, Option, None, refl, arith}, specs.Prelude.map}
use Rattle.lists.specs.Elements.{Each, first_some}

-- where nothing is told, nothing is told of any element, and the other way round
pub first_none : {A B : Type 0} (f : A → Option B) (xs : List A) → first_some f xs ≡ None → Each (λ x. f x ≡ None) xs
first_none f [] h = tt
first_none {A} {B} f (x ∷ xs) h = grind (arith, first_none f xs)

pub none_first : {A B : Type 0} (f : A → Option B) (xs : List A) → Each (λ x. f x ≡ None) xs → first_some f xs ≡ None
none_first f [] h = refl
none_first f (x ∷ xs) h = rw h.0 (none_first f xs h.1)

pub map_none : {A B : Type 0} (f : A → B) (xs : List A) → map f xs ≡ [] → xs ≡ []
map_none f [] h = refl
map_none f (x ∷ xs) h = cc
