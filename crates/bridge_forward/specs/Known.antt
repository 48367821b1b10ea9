-- The cached bridges for bus numbers, each with the generation in which it was found. An entry of an earlier generation is
-- invalid.
--     known_now time es      the valid entries
--     AreKept time es      one entry for each bus number, and none of a later generation
use Rattle.std.specs.Prelude.{◌≡◌, ℕ, ◌≤◌, ◌==◌, List, length, map, Option, Some, None, if◌then◌else◌}
use Rattle.lists.specs.Elements.{Each}

abbrev pub known_entry : ℕ → ℕ × ℕ → Option ℕ
known_entry time (found, bridge) = if found == time then Some bridge else None

abbrev pub known_now : ℕ → List (ℕ × ℕ) → List (Option ℕ)
known_now time es = map (known_entry time) es

pub record AreKept (time : ℕ) (es : List (ℕ × ℕ)) : Type 0 where
  pub begun : 1 ≤ time
  pub all : length es ≡ 256
  pub past : Each (λ e. e.0 ≤ time) es
