-- Membership, and facts on pairs of elements, through filters, maps and lists end to end.
use Rattle.std.{proofs.{Common.{◌≡◌, ◌⊎◌, inl, inr, Bool, true, false, cond, List, [], ◌∷◌, ◌++◌, Option, Some, refl, sym, ap, ap₂, ◌∙◌, subst, arith}, lemmas.{Grind.flat_map-append, Bool.or_right}}, specs.{Prelude.{map, filter, flat_map}, List.{list_any, list_all}, Option.option_to_list}}
use Rattle.lists.{specs.Elements.{IsIn, Each, EachPair}, proofs.{EachLemmas.pair_parts, Indices.{any_at, index_in}, Tests.{left_true, right_true}}}

-- ---- what holds of each element

pub each_in : {A : Type 0} (P : A → Type 0) (x : A) (xs : List A) → Each P xs → IsIn x xs → P x
each_in P x [] h m = absurd m
each_in P x (y ∷ ys) h m = grind (arith, each_in P x ys)

pub each_from : {A : Type 0} (P : A → Type 0) (xs : List A) → ((x : A) → IsIn x xs → P x) → Each P xs
each_from P [] f = tt
each_from P (x ∷ xs) f = (f x (inl refl), each_from P xs (λ y m. f y (inr m)))

-- ---- lists end to end

pub in_front : {A : Type 0} (x : A) (xs ys : List A) → IsIn x xs → IsIn x (xs ++ ys)
in_front x [] ys m = absurd m
in_front x (y ∷ xs) ys m = grind (arith, in_front x xs ys)

pub in_back : {A : Type 0} (x : A) (xs ys : List A) → IsIn x ys → IsIn x (xs ++ ys)
in_back x [] ys m = m
in_back x (y ∷ xs) ys m = inr (in_back x xs ys m)

pub front_or_back : {A : Type 0} (x : A) (xs ys : List A) → IsIn x (xs ++ ys) → IsIn x xs ⊎ IsIn x ys
front_or_back x [] ys m = inr m
front_or_back x (y ∷ xs) ys m = grind (arith, front_or_back x xs ys)

pub in_flat_map : {A B : Type 0} (f : A → List B) (x : A) (y : B) (xs : List A) → IsIn x xs → IsIn y (f x) → IsIn y (flat_map f xs)
in_flat_map f x y [] m k = absurd m
in_flat_map f x y (z ∷ xs) m k = grind (arith, in_front, in_back, in_flat_map f x y xs)

-- an element of the whole comes from one of the parts
pub from_flat_map : {A B : Type 0} (f : A → List B) (y : B) (xs : List A) → IsIn y (flat_map f xs) → (x : A) × IsIn x xs × IsIn y (f x)
from_flat_map f y [] m = absurd m
from_flat_map {A} f y (z ∷ xs) m = by_part (front_or_back y (f z) (flat_map f xs) m) (from_flat_map f y xs)
  where
    later : (x : A) × IsIn x xs × IsIn y (f x) → (x : A) × IsIn x (z ∷ xs) × IsIn y (f x)
    later (x, k, l) = (x, inr k, l)

    by_part : IsIn y (f z) ⊎ IsIn y (flat_map f xs) → (IsIn y (flat_map f xs) → (x : A) × IsIn x xs × IsIn y (f x)) → (x : A) × IsIn x (z ∷ xs) × IsIn y (f x)
    by_part (inl k) more = (z, inl refl, k)
    by_part (inr k) more = later (more k)

-- ---- maps and filters

pub in_map : {A B : Type 0} (f : A → B) (x : A) (xs : List A) → IsIn x xs → IsIn (f x) (map f xs)
in_map f x [] m = m
in_map f x (y ∷ xs) m = grind (arith, in_map f x xs)

pub from_map : {A B : Type 0} (f : A → B) (y : B) (xs : List A) → IsIn y (map f xs) → (x : A) × IsIn x xs × (y ≡ f x)
from_map f y [] m = absurd m
from_map f y (x ∷ xs) (inl e) = (x, inl refl, e)
from_map {A} f y (x ∷ xs) (inr m) = grind (arith, from_map f y xs m)

pub in_filter : {A : Type 0} (p : A → Bool) (x : A) (xs : List A) → IsIn x xs → p x ≡ true → IsIn x (filter p xs)
in_filter p x [] m h = m
in_filter p x (y ∷ xs) m h = grind (arith, in_filter p x xs)

pub from_filter : {A : Type 0} (p : A → Bool) (x : A) (xs : List A) → IsIn x (filter p xs) → IsIn x xs × (p x ≡ true)
from_filter p x [] m = absurd m
from_filter p x (y ∷ xs) m = grind (arith, from_filter p x xs)

-- what one element passes, some element passes, and the other way round
pub from_option : {A : Type 0} (o : Option A) (x : A) → IsIn x (option_to_list o) → o ≡ Some x
from_option o x m = grind arith

pub any_in : {A : Type 0} (p : A → Bool) (x : A) (xs : List A) → IsIn x xs → p x ≡ true → list_any p xs ≡ true
any_in p x [] m h = absurd m
any_in p x (y ∷ xs) m h = grind (arith, or_right, any_in p x xs)

pub from_any : {A : Type 0} (p : A → Bool) (xs : List A) → list_any p xs ≡ true → (x : A) × IsIn x xs × (p x ≡ true)
from_any p xs h = let f = any_at p xs h in (f.1.0, index_in xs f.0 f.1.0 f.1.1, f.1.2)

-- a test of all holds where each element passes it, and the other way round
pub all_in : {A : Type 0} (p : A → Bool) (x : A) (xs : List A) → list_all p xs ≡ true → IsIn x xs → p x ≡ true
all_in p x [] h m = absurd m
all_in p x (y ∷ xs) h m = grind (arith, left_true, all_in p x xs, right_true)

pub all_from : {A : Type 0} (p : A → Bool) (xs : List A) → ((x : A) → IsIn x xs → p x ≡ true) → list_all p xs ≡ true
all_from p [] h = refl
all_from p (x ∷ xs) h = rw (h x (inl refl)) (all_from p xs (λ y m. h y (inr m)))

pub filter_same : {A : Type 0} (p q : A → Bool) (xs : List A) → ((x : A) → IsIn x xs → p x ≡ q x) → filter p xs ≡ filter q xs
filter_same p q [] h = refl
filter_same p q (x ∷ xs) h = ap₂ (λ t ys. cond t (x ∷ ys) ys) (h x (inl refl)) (filter_same p q xs (λ y m. h y (inr m)))

pub flat_map_map : {A B C : Type 0} (f : B → List C) (g : A → B) (xs : List A) → flat_map f (map g xs) ≡ flat_map (λ x. f (g x)) xs
flat_map_map f g [] = refl
flat_map_map f g (x ∷ xs) = ap (λ ys. f (g x) ++ ys) (flat_map_map f g xs)

pub flat_map_flat : {A B C : Type 0} (f : B → List C) (g : A → List B) (xs : List A) → flat_map f (flat_map g xs) ≡ flat_map (λ x. flat_map f (g x)) xs
flat_map_flat f g [] = refl
flat_map_flat f g (x ∷ xs) = flat_map-append f (g x) (flat_map g xs) ∙ ap (λ ys. flat_map f (g x) ++ ys) (flat_map_flat f g xs)

pub flat_map_same : {A B : Type 0} (f g : A → List B) (xs : List A) → ((x : A) → IsIn x xs → f x ≡ g x) → flat_map f xs ≡ flat_map g xs
flat_map_same f g [] h = refl
flat_map_same f g (x ∷ xs) h = ap₂ ◌++◌ (h x (inl refl)) (flat_map_same f g xs (λ y m. h y (inr m)))

-- ---- pairs

pub pairs_weaker : {A : Type 0} (R S : A → A → Type 0) (xs : List A) → EachPair R xs → ((x y : A) → IsIn x xs → IsIn y xs → R x y → S x y) → EachPair S xs
pairs_weaker R S [] h f = tt
pairs_weaker R S (x ∷ xs) h f = grind (arith, each_from, each_in, pairs_weaker R S xs)

pub pairs_append : {A : Type 0} (R : A → A → Type 0) (xs ys : List A) → EachPair R xs → EachPair R ys → ((x y : A) → IsIn x xs → IsIn y ys → R x y) → EachPair R (xs ++ ys)
pairs_append R [] ys h k f = k
pairs_append {A} R (x ∷ xs) ys h k f = (each_from (R x) (xs ++ ys) (λ y m. by_part y (front_or_back y xs ys m)), pairs_append R xs ys h.1 k (λ y z m n. f y z (inr m) n))
  where
    by_part : (y : A) → IsIn y xs ⊎ IsIn y ys → R x y
    by_part y (inl m) = each_in (R x) y xs h.0 m
    by_part y (inr m) = f x y (inl refl) m

-- pairs of one part, and pairs of two parts
pub pairs_flat_map : {A B : Type 0} (Q : A → A → Type 0) (R : B → B → Type 0) (f : A → List B) (xs : List A) → EachPair Q xs → ((x : A) → IsIn x xs → EachPair R (f x))
    → ((x y : A) → IsIn x xs → IsIn y xs → Q x y → (r s : B) → IsIn r (f x) → IsIn s (f y) → R r s) → EachPair R (flat_map f xs)
pairs_flat_map Q R f [] q one two = tt
pairs_flat_map {A} {B} Q R f (x ∷ xs) q one two =
    pairs_append R (f x) (flat_map f xs) (one x (inl refl)) (pairs_flat_map Q R f xs q.1 (λ y m. one y (inr m)) (λ y z m k. two y z (inr m) (inr k)))
    (λ r s m k. later r s m (from_flat_map f s xs k))
  where
    later : (r s : B) → IsIn r (f x) → (y : A) × IsIn y xs × IsIn s (f y) → R r s
    later r s m (y, k, l) = two x y (inl refl) (inr k) (each_in (Q x) y xs q.0 k) r s m l

pub pair_in : {A : Type 0} (R : A → A → Type 0) (x y : A) (xs : List A) → EachPair R xs → IsIn x xs → IsIn y xs → (x ≡ y) ⊎ (R x y ⊎ R y x)
pair_in R x y [] h m k = absurd m
pair_in R x y (z ∷ zs) h (inl e) k = grind (arith, each_in)
pair_in R x y (z ∷ zs) h (inr m) k = grind (arith, each_in, pair_in R x y zs)

-- pairs of the whole are pairs of each part
pub pairs_of_part : {A B : Type 0} (R : B → B → Type 0) (f : A → List B) (x : A) (xs : List A) → EachPair R (flat_map f xs) → IsIn x xs → EachPair R (f x)
pairs_of_part R f x [] h m = absurd m
pairs_of_part R f x (y ∷ xs) h (inl e) = (pair_parts R (f x) (flat_map f xs) (subst (λ z. EachPair R (f z ++ flat_map f xs)) (sym e) h)).first
pairs_of_part R f x (y ∷ xs) h (inr m) = pairs_of_part R f x xs (pair_parts R (f y) (flat_map f xs) h).second m

pub pairs_of_map : {A B : Type 0} (R : B → B → Type 0) (f : A → B) (xs : List A) → EachPair (λ x y. R (f x) (f y)) xs → EachPair R (map f xs)
pairs_of_map R f [] h = tt
pairs_of_map {A} {B} R f (x ∷ xs) h = (each_from (R (f x)) (map f xs) (λ y m. of_map y (from_map f y xs m)), pairs_of_map R f xs h.1)
  where
    of_map : (y : B) → (z : A) × IsIn z xs × (y ≡ f z) → R (f x) y
    of_map y (z, m, e) = subst (R (f x)) (sym e) (each_in (λ w. R (f x) (f w)) z xs h.0 m)

-- ---- an element that no other is told from by a test

pub none_pass : {A : Type 0} (p : A → Bool) (xs : List A) → ((x : A) → IsIn x xs → p x ≡ false) → filter p xs ≡ []
none_pass p [] h = refl
none_pass p (x ∷ xs) h = let no : p x ≡ false = h x (inl refl) in rw no (none_pass p xs (λ y m. h y (inr m)))

-- where a test passes x and nothing that stands before or after it, x alone passes
pub one_passes : {A : Type 0} (p : A → Bool) (R : A → A → Type 0) (x : A) (xs : List A) → EachPair R xs → ((y : A) → R x y → p y ≡ false) → ((y : A) → R y x → p y ≡ false)
    → p x ≡ true → IsIn x xs → filter p xs ≡ x ∷ []
one_passes p R x [] h after before here m = absurd m
one_passes p R x (y ∷ xs) h after before here m = grind (arith, none_pass, each_in, one_passes p R x xs)

-- ---- lists without elements

pub none_front : {A : Type 0} (xs ys : List A) → xs ++ ys ≡ [] → xs ≡ []
none_front [] ys h = refl
none_front (x ∷ xs) ys h = cc

pub none_back : {A : Type 0} (xs ys : List A) → xs ++ ys ≡ [] → ys ≡ []
none_back [] ys h = h
none_back (x ∷ xs) ys h = cc

pub none_each : {A B : Type 0} (f : A → List B) (xs : List A) → flat_map f xs ≡ [] → Each (λ x. f x ≡ []) xs
none_each f [] h = tt
none_each f (x ∷ xs) h = (none_front (f x) (flat_map f xs) h, none_each f xs (none_back (f x) (flat_map f xs) h))

pub each_none : {A B : Type 0} (f : A → List B) (xs : List A) → Each (λ x. f x ≡ []) xs → flat_map f xs ≡ []
each_none f [] h = refl
each_none f (x ∷ xs) h = ap₂ ◌++◌ h.0 (each_none f xs h.1)

pub no_elements : {A : Type 0} (xs : List A) → ((x : A) → IsIn x xs → ⊥) → xs ≡ []
no_elements [] h = refl
no_elements (x ∷ xs) h = absurd (h x (inl refl))
