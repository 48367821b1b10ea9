-- A loop over entries, with one entry more.
use Rattle.std.{proofs.{Common.{◌≡◌, ℕ, suc, ◌+◌, ◌<◌, Bool, true, List, [], ◌∷◌, ◌++◌, map, length, get_or, drop, sym, ap, ◌∙◌, add-one, append_assoc}, Math.Seq.drop-cons, lemmas.Bool.and_parts}, specs.List.list_all}
use Rattle.lists.specs.Elements.{Each}

module _ {A : Type 0} (xs : List A) (i : ℕ) (x : A) (h : i < length xs) (e : x ≡ get_or xs i x) where
  pub next_is : drop i xs ≡ x ∷ drop (i + 1) xs
  next_is = rw (add-one, drop-cons xs i x h) (ap (λ y. y ∷ drop (suc i) xs) (sym e))

  pub next_passes : (p : A → Bool) → list_all p (drop i xs) ≡ true → p x ≡ true
  next_passes p k = (and_parts (p x) (list_all p (drop (i + 1) xs)) (rw next_is at k)).0

  pub rest_passes : (p : A → Bool) → list_all p (drop i xs) ≡ true → list_all p (drop (i + 1) xs) ≡ true
  rest_passes p k = (and_parts (p x) (list_all p (drop (i + 1) xs)) (rw next_is at k)).1

  pub rest_same : (p : A → Bool) (all : Bool) → p x ≡ true → list_all p (drop i xs) ≡ all → list_all p (drop (i + 1) xs) ≡ all
  rest_same p all here k = rw (next_is, here) at k

  pub rest_map : {B : Type 0} (f : A → B) (ys all : List B) → ys ++ map f (drop i xs) ≡ all → (ys ++ f x ∷ []) ++ map f (drop (i + 1) xs) ≡ all
  rest_map f ys all k = append_assoc ys (f x ∷ []) (map f (drop (i + 1) xs)) ∙ rw next_is at k

pub each_push : {A : Type 0} (P : A → Type 0) (ys : List A) (y : A) → Each P ys → P y → Each P (ys ++ y ∷ [])
each_push P [] y h k = (k, tt)
each_push P (x ∷ ys) y h k = (h.0, each_push P ys y h.1 k)
