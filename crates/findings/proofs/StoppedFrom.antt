-- What each function adds, and what is found first, from an index on.
use Rattle.std.{proofs.{Common.{arith, ◌≡◌, ℕ, zero, suc, ◌+◌, Bool, false, cond, List, [], ◌∷◌, drop, ◌++◌, refl, sym, ap, ◌∙◌, add-one, append_assoc}, lemmas.List.{map-append, reverse-append}}, specs.{Prelude.{find, slice_get, map, filter, flat_map, reverse}, Option.{option_map_or, option_to_list}}}
use Rattle.findings.{proofs.Indexed.flat_step, specs.WhyByRows.selected}

-- what an index adds to what those before it gave
pub next_one : {A B : Type 0} (h : A → List B) (xs : List A) (i : ℕ) (whole before after one : List B) → before ++ flat_map h (drop i xs) ≡ whole → one ≡ flat_map h (option_to_list (slice_get xs i)) → after ≡ before ++ one
    → after ++ flat_map h (drop (i + 1) xs) ≡ whole
next_one h xs i whole before after one so_far e is = grind (arith, append_assoc, flat_step)

pub selected_is : {A B : Type 0} (t : A → Bool) (g : A → B) (xs : List A) → selected t g xs ≡ map g (filter t xs)
selected_is t g [] = refl
selected_is t g (x ∷ xs) = grind (arith, selected_is t g xs)

pub map_reverse : {A B : Type 0} (f : A → B) (xs : List A) → map f (reverse xs) ≡ reverse (map f xs)
map_reverse f [] = refl
map_reverse f (x ∷ xs) =
    ap (map f) (reverse-append (x ∷ []) xs) ∙ map-append f (reverse xs) (x ∷ [])
    ∙ ap (λ ys. ys ++ f x ∷ []) (map_reverse f xs) ∙ sym (reverse-append (f x ∷ []) (map f xs))

find_next : {A : Type 0} (t : A → Bool) (xs : List A) (i : ℕ) → find t (drop i xs) ≡ cond (option_map_or t (slice_get xs i) false) (slice_get xs i) (find t (drop (suc i) xs))
find_next t [] zero = refl
find_next t [] (suc i) = refl
find_next t (x ∷ xs) zero = refl
find_next t (x ∷ xs) (suc i) = find_next t xs i

pub find_step : {A : Type 0} (t : A → Bool) (xs : List A) (i : ℕ) → find t (drop i xs) ≡ cond (option_map_or t (slice_get xs i) false) (slice_get xs i) (find t (drop (i + 1) xs))
find_step t xs i = rw add-one (find_next t xs i)
