-- A walk over a list that appends problems of each element.
--     GoesOn      what is there with those of the elements that are left
--     range_more      a step of a list of entries
use Rattle.std.{proofs.{Common.{◌≡◌, ℕ, ◌+◌, List, [], ◌∷◌, ◌++◌, map, drop, zero-add}, lemmas.List.FromFn.map-range_with_len_more}, specs.List.{enumerate_from, flat_map, range_with_len}}
use Rattle.board_file.specs.{Problems.{Found, found_of}, declared.finding.Violation.Violation}

-- with those of the elements from i on, the problems are those at first and those of all elements
abbrev pub GoesOn : {A : Type 0} → (ℕ × A → List Found) → List A → ℕ → List Violation → List Violation → Type 0
GoesOn of xs i first problems =
    map found_of problems ++ flat_map of (enumerate_from i (drop i xs)) ≡ map found_of first ++ flat_map of (enumerate_from 0 xs)

pub range_more : {X : Type 0} (f : ℕ → X) (n : ℕ) → map f (range_with_len 0 (n + 1)) ≡ map f (range_with_len 0 n) ++ f n ∷ []
range_more f n = map-range_with_len_more f 0 n n (zero-add n)
