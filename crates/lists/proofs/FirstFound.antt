-- The first of a list that passes a test, or gives something.
use Rattle.std.{proofs.Common.{◌≡◌, Bool, true, List, [], ◌∷◌, ◌++◌, Option, Some, None, refl, ap, ◌∙◌, arith, rules}, specs.{Prelude.find, List.list_any}}
use Rattle.lists.{specs.Elements.{IsIn, Each, first_of_two, first_some}, proofs.Indices.{each_at, found_at, index_in}}

-- it is what the function gives of one of the elements
pub first_some_of : {A B : Type 0} (f : A → Option B) (xs : List A) (y : B) → first_some f xs ≡ Some y → (x : A) × IsIn x xs × (f x ≡ Some y)
first_some_of f [] y h = cc
first_some_of {A} {B} f (x ∷ xs) y h = grind (arith, first_some_of f xs y)

-- what holds of all that the elements give holds of the first
pub first_some_has : {A B : Type 0} (f : A → Option B) (P : B → Type 0) (xs : List A) (y : B) → ((x : A) (z : B) → f x ≡ Some z → P z) → first_some f xs ≡ Some y → P y
first_some_has f P [] y each h = cc
first_some_has {A} {B} f P (x ∷ xs) y each h = grind (arith, first_some_has f P xs y each)

pub found_passes : {A : Type 0} (p : A → Bool) (xs : List A) (y : A) → find p xs ≡ Some y → p y ≡ true
found_passes p xs y h = (found_at p xs y h).0

pub each_found : {A : Type 0} (P : A → Type 0) (p : A → Bool) (xs : List A) (y : A) → Each P xs → find p xs ≡ Some y → P y
each_found P p xs y each h = let f = found_at p xs y h in each_at P xs f.1.0 y each f.1.1

pub found_in : {A : Type 0} (t : A → Bool) (xs : List A) (y : A) → find t xs ≡ Some y → IsIn y xs × (t y ≡ true)
found_in t xs y e = let f = found_at t xs y e in (index_in xs f.1.0 y f.1.1, f.0)

pub found : {A : Type 0} (t : A → Bool) (xs : List A) → list_any t xs ≡ true → (f : A) × (find t xs ≡ Some f) × IsIn f xs × (t f ≡ true)
found t [] h = cc
found {A} t (x ∷ xs) h = search (rules, found t xs)

-- the first element of which something is told, with those before it, of which nothing is
pub record IsFirstTold {A B : Type 0} (f : A → Option B) (xs : List A) (y : B) : Type 0 where
  pub element : A
  pub before : List A
  pub after : List A
  pub list_is : xs ≡ before ++ element ∷ after
  pub none : Each (λ x. f x ≡ None) before
  pub told : f element ≡ Some y

pub first_from : {A B : Type 0} (f : A → Option B) (xs : List A) (y : B) → first_some f xs ≡ Some y → IsFirstTold f xs y
first_from f [] y h = cc
first_from {A} {B} f (x ∷ xs) y h = by (f x) refl h (first_from f xs y)
  where
    later : f x ≡ None → IsFirstTold f xs y → IsFirstTold f (x ∷ xs) y
    later e m = record {
      element = m.element;
      before = x ∷ m.before;
      after = m.after;
      list_is = ap (λ zs. x ∷ zs) m.list_is;
      none = (e, m.none);
      told = m.told;
    }

    by : (o : Option B) → f x ≡ o → first_of_two o (first_some f xs) ≡ Some y → (first_some f xs ≡ Some y → IsFirstTold f xs y) → IsFirstTold f (x ∷ xs) y
    by None e g more = later e (more g)
    by (Some z) e g more = record { element = x; before = []; after = xs; list_is = refl; none = tt; told = e ∙ g }
