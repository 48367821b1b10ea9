-- Predicates and functions on lists, defined by recursion so that proofs by induction can unfold them.
--     IsIn x xs      x is an element of the list
--     Each P xs, EachPair R xs      P holds for each element; R holds for each element and each later one
--     first_some f xs      the first value that f returns for an element
use Rattle.std.specs.{Prelude.{List, [], ◌∷◌, ◌≡◌, ◌⊎◌, ⊤, Bool, true, ◌&&◌, Option, Some, None}, List.list_all}

abbrev pub IsIn : {A : Type 0} → A → List A → Type 0
IsIn x [] = ⊥
IsIn x (y ∷ ys) = (x ≡ y) ⊎ IsIn x ys

-- P holds for each element
abbrev pub Each : {A : Type 0} → (A → Type 0) → List A → Type 0
Each P [] = ⊤
Each P (x ∷ xs) = P x × Each P xs

-- R holds for each element and each later one
abbrev pub EachPair : {A : Type 0} → (A → A → Type 0) → List A → Type 0
EachPair R [] = ⊤
EachPair R (x ∷ xs) = Each (R x) xs × EachPair R xs

-- `EachPair` as a test
abbrev pub all_pairs : {A : Type 0} → (A → A → Bool) → List A → Bool
all_pairs test [] = true
all_pairs test (x ∷ xs) = list_all (test x) xs && all_pairs test xs

-- the first option that isn't `None`
abbrev pub first_of_two : {A : Type 0} → Option A → Option A → Option A
first_of_two None y = y
first_of_two (Some x) y = Some x

abbrev pub first_some : {A B : Type 0} → (A → Option B) → List A → Option B
first_some f [] = None
first_some f (x ∷ xs) = first_of_two (f x) (first_some f xs)
