-- Lists by index: what a test of all, a search or a map says of the element at an index.
use Rattle.std.{proofs.{Common.{◌≡◌, ℕ, ◌<◌, Bool, true, false, ◌||◌, cond, inl, inr, Some, None, List, [], ◌∷◌, map, length, zero, suc, refl, ap, sym, ◌∙◌, arith, get_or, subst}, lemmas.{Bool.{and_left, and_right}, List.{map-set, set-get_or}, Option.{slice_get_read, slice_get-map, get_or_from_slice_get}}}, specs.{Prelude.{find, option_map}, List.{slice_get, slice_set, list_any, list_all}}}
use Rattle.lists.specs.Elements.{IsIn, Each, EachPair}

-- what indexing gives
pub read_at : {A : Type 0} (xs : List A) (i : ℕ) (x : A) → i < length xs → x ≡ get_or xs i x → slice_get xs i ≡ Some x
read_at xs i x l h = slice_get_read xs (length xs) i x refl l h

pub same_at : {A : Type 0} (xs : List A) (i : ℕ) (x y : A) → slice_get xs i ≡ Some x → slice_get xs i ≡ Some y → x ≡ y
same_at xs i x y p q = let t : Some x ≡ Some y = sym p ∙ q in cc

-- an index below the length has an element
pub at_below : {A : Type 0} (xs : List A) (i : ℕ) → i < length xs → (x : A) × (slice_get xs i ≡ Some x)
at_below [] i l = absurd (omega arith)
at_below (x ∷ xs) zero l = (x, refl)
at_below (x ∷ xs) (suc i) l = at_below xs i (omega arith)

pub each_at : {A : Type 0} (P : A → Type 0) (xs : List A) (i : ℕ) (x : A) → Each P xs → slice_get xs i ≡ Some x → P x
each_at P [] i x h e = absurd (cc)
each_at P (y ∷ ys) zero x h e = let same : y ≡ x = cc in subst P same h.0
each_at P (y ∷ ys) (suc i) x h e = each_at P ys i x h.1 e

pub each_by_index : {A : Type 0} (P : A → Type 0) (xs : List A) → ((i : ℕ) (x : A) → slice_get xs i ≡ Some x → P x) → Each P xs
each_by_index P [] h = tt
each_by_index P (x ∷ xs) h = (h 0 x refl, each_by_index P xs (λ i y e. h (suc i) y e))

pub pair_at : {A : Type 0} (R : A → A → Type 0) (xs : List A) (i j : ℕ) (x y : A) → EachPair R xs → i < j → slice_get xs i ≡ Some x → slice_get xs j ≡ Some y → R x y
pair_at R [] i j x y h l e f = absurd (cc)
pair_at R (z ∷ zs) i zero x y h l e f = absurd (omega arith)
pair_at R (z ∷ zs) zero (suc j) x y h l e f = let same : z ≡ x = cc in subst (λ w. R w y) same (each_at (R z) zs j y h.0 f)
pair_at R (z ∷ zs) (suc i) (suc j) x y h l e f = pair_at R zs i j x y h.1 (omega arith) e f

pub any_at : {A : Type 0} (t : A → Bool) (xs : List A) → list_any t xs ≡ true → (i : ℕ) × ((x : A) × (slice_get xs i ≡ Some x) × (t x ≡ true))
any_at t [] h = absurd (cc)
any_at {A} t (y ∷ ys) h = by_first (t y) refl h (any_at t ys)
  where
    by_first : (b : Bool) → t y ≡ b → (b || list_any t ys) ≡ true → (list_any t ys ≡ true → (i : ℕ) × ((x : A) × (slice_get ys i ≡ Some x) × (t x ≡ true)))
        → (i : ℕ) × ((x : A) × (slice_get (y ∷ ys) i ≡ Some x) × (t x ≡ true))
    by_first true e k more = (0, (y, refl, e))
    by_first false e k more = let m = more k in (suc m.0, (m.1.0, m.1.1, m.1.2))

-- a test of all fails where one element fails it
pub fails_at : {A : Type 0} (p : A → Bool) (xs : List A) (i : ℕ) (x : A) → slice_get xs i ≡ Some x → p x ≡ false → list_all p xs ≡ false
fails_at p [] i x at h = cc
fails_at p (y ∷ ys) zero x at h = let same : y ≡ x = cc in and_left (p y) (list_all p ys) (ap p same ∙ h)
fails_at p (y ∷ ys) (suc i) x at h = and_right (p y) (list_all p ys) (fails_at p ys i x at h)

pub index_in : {A : Type 0} (xs : List A) (i : ℕ) (x : A) → slice_get xs i ≡ Some x → IsIn x xs
index_in [] i x e = absurd (cc)
index_in (y ∷ ys) zero x e = let same : x ≡ y = cc in inl same
index_in (y ∷ ys) (suc i) x e = inr (index_in ys i x e)

-- ---- maps

pub map_at : {A B : Type 0} (f : A → B) (xs : List A) (i : ℕ) (x : A) → slice_get xs i ≡ Some x → slice_get (map f xs) i ≡ Some (f x)
map_at f xs i x e = slice_get-map f xs i ∙ ap (option_map f) e

pub at_map : {A B : Type 0} (f : A → B) (xs : List A) (i : ℕ) (y : B) → slice_get (map f xs) i ≡ Some y → (x : A) × (slice_get xs i ≡ Some x) × (y ≡ f x)
at_map f [] i y e = absurd (cc)
at_map f (x ∷ xs) zero y e = (x, refl, let same : y ≡ f x = cc in same)
at_map f (x ∷ xs) (suc i) y e = at_map f xs i y e

pub map_set : {A B : Type 0} (f : A → B) (xs : List A) (i : ℕ) (x : A) → map f (slice_set xs i x) ≡ slice_set (map f xs) i (f x)
map_set f xs i x = map-set f xs i x

pub set_same : {A : Type 0} (xs : List A) (i : ℕ) (x : A) → slice_get xs i ≡ Some x → slice_set xs i x ≡ xs
set_same xs i x h = ap (slice_set xs i) (sym (get_or_from_slice_get xs i x x h)) ∙ set-get_or xs i x

pub get_set : {A : Type 0} (xs : List A) (i : ℕ) (x y : A) → slice_get xs i ≡ Some x → slice_get (slice_set xs i y) i ≡ Some y
get_set [] i x y h = cc
get_set (z ∷ zs) zero x y h = refl
get_set (z ∷ zs) (suc i) x y h = get_set zs i x y h

pub get_other : {A : Type 0} (xs : List A) (i j : ℕ) (y : A) → (i ≡ j → ⊥) → slice_get (slice_set xs i y) j ≡ slice_get xs j
get_other [] i j y h = refl
get_other (z ∷ zs) zero j y h = grind arith
get_other (z ∷ zs) (suc i) zero y h = refl
get_other (z ∷ zs) (suc i) (suc j) y h = get_other zs i j y (λ e. h (ap suc e))

-- ---- find

pub find_none : {A : Type 0} (t : A → Bool) (xs : List A) → ((j : ℕ) (x : A) → slice_get xs j ≡ Some x → t x ≡ false) → find t xs ≡ None
find_none t [] h = refl
find_none t (x ∷ xs) h = rw (h 0 x refl) (find_none t xs (λ j y e. h (suc j) y e))

pub find_at : {A : Type 0} (t : A → Bool) (xs : List A) (i : ℕ) (x : A) → slice_get xs i ≡ Some x → t x ≡ true
    → ((j : ℕ) (y : A) → j < i → slice_get xs j ≡ Some y → t y ≡ false) → find t xs ≡ Some x
find_at t [] i x e h k = absurd (cc)
find_at t (y ∷ ys) zero x e h k = let same : y ≡ x = cc in let first : t y ≡ true = ap t same ∙ h in rw first (ap (λ z. Some z) same)
find_at t (y ∷ ys) (suc i) x e h k = rw (k 0 y (omega arith) refl) (find_at t ys i x e h (λ j z l f. k (suc j) z (omega arith) f))

-- what was found passes, and stands at an index
pub found_at : {A : Type 0} (t : A → Bool) (xs : List A) (x : A) → find t xs ≡ Some x → (t x ≡ true) × ((i : ℕ) × (slice_get xs i ≡ Some x))
found_at t [] x e = absurd (cc)
found_at {A} t (y ∷ ys) x e = by_first (t y) refl e (found_at t ys x)
  where
    by_first : (b : Bool) → t y ≡ b → cond b (Some y) (find t ys) ≡ Some x → (find t ys ≡ Some x → (t x ≡ true) × ((i : ℕ) × (slice_get ys i ≡ Some x)))
        → (t x ≡ true) × ((i : ℕ) × (slice_get (y ∷ ys) i ≡ Some x))
    by_first true p k more = let same : y ≡ x = cc in (ap t (sym same) ∙ p, (0, ap (λ z. Some z) same))
    by_first false p k more = let m = more k in (m.0, (suc m.1.0, m.1.1))
