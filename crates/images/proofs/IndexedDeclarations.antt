-- What holds of each element that was looked at.
use Rattle.std.{proofs.Common.{◌≡◌, ℕ, zero, suc, ◌+◌, ◌≤◌, List, [], ◌∷◌, length, take, Some, refl, sym, subst, arith}, specs.Prelude.slice_get}
use Rattle.lists.specs.Elements.{Each}

-- what holds of the first and of the others holds of all
pub each_of : {A : Type 0} (P : A → Type 0) (x : A) (left others all : List A) → left ≡ x ∷ others → P x → (Each P left → Each P all) → Each P others → Each P all
each_of P x left others all first here h more = h (subst (Each P) (sym first) (here, more))

each_suc : {A : Type 0} (P : A → Type 0) (xs : List A) (i : ℕ) → ((x : A) → slice_get xs i ≡ Some x → P x) → Each P (take i xs) → Each P (take (suc i) xs)
each_suc P [] i one h = tt
each_suc P (x ∷ xs) zero one h = (one x refl, tt)
each_suc P (x ∷ xs) (suc i) one h = (h.0, each_suc P xs i one h.1)

pub each_next : {A : Type 0} (P : A → Type 0) (xs : List A) (i : ℕ) → ((x : A) → slice_get xs i ≡ Some x → P x) → Each P (take i xs) → Each P (take (i + 1) xs)
each_next P xs i one h = let next : suc i ≡ i + 1 = omega arith in subst (λ n. Each P (take n xs)) next (each_suc P xs i one h)

pub each_all : {A : Type 0} (P : A → Type 0) (xs : List A) (i : ℕ) → length xs ≤ i → Each P (take i xs) → Each P xs
each_all P [] i all h = tt
each_all P (x ∷ xs) zero all h = absurd (omega arith)
each_all P (x ∷ xs) (suc i) all h = (h.0, each_all P xs i (omega arith) h.1)
