-- Tests of all rows of a board, row by row.
use Rattle.std.{proofs.{Common.{◌≡◌, ℕ, ◌+◌, ◌≤◌, Bool, true, List, length, take, Some, ◌∙◌, subst}, lemmas.{Option.{slice_get_within, get_or_from_slice_get}, List.{take_all, Folds.list_all_more}}}, specs.List.{slice_get, list_all}}

pub all_more : {A : Type 0} (t : A → Bool) (xs : List A) (i : ℕ) (x : A) → slice_get xs i ≡ Some x → list_all t (take i xs) ≡ true → t x ≡ true → list_all t (take (i + 1) xs) ≡ true
all_more t xs i x e h k = list_all_more t xs i x (slice_get_within xs i x e) ∙ (let g = get_or_from_slice_get xs i x x e in rw (h, g) k)

pub all_rows_pass : {A : Type 0} (t : A → Bool) (xs : List A) (i : ℕ) → length xs ≤ i → i ≤ length xs → list_all t (take i xs) ≡ true → list_all t xs ≡ true
all_rows_pass t xs i l m h = subst (λ ys. list_all t ys ≡ true) (take_all i xs l) h
