-- Ranges of consecutive addresses or offsets, given by the first one and a size.
--     IsInside start end first size      none is before the start, and none is at the end or after it
--     AreApart first size first' size'      two such ranges don't overlap
use Rattle.std.specs.Prelude.{ℕ, ◌+◌, ◌≤◌, ◌⊎◌}

abbrev pub IsInside : ℕ → ℕ → ℕ → ℕ → Type 0
IsInside start end first size = (start ≤ first) × (first + size ≤ end)

abbrev pub AreApart : ℕ → ℕ → ℕ → ℕ → Type 0
AreApart first size first' size' = (first + size ≤ first') ⊎ (first' + size' ≤ first)
