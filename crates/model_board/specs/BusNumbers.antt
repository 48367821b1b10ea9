-- Bus numbers, computed by counting bridges: PCI-to-PCI Bridge Architecture 1.2, chapter 3.2.5.
--     secondary, subordinate b p      the first and the last bus number behind the bridge at p
--     bus_behind, bus_of      the number of the bus behind a bridge; the number of the bus that a function is on
--     bridge_count      how many bridges the board has, which is how many buses it has besides bus 0
--     numbers_suffice, Enumerates      there are enough numbers for all buses
use Rattle.std.specs.Prelude.{[], ◌∷◌, ℕ, ◌+◌, Bool, ◌&&◌, ◌≤◌, nat_le, count_by}
use Rattle.model_board.specs.{Paths.{Path, path_before, is_ancestor_of, parent}, Board.{is_bridge, Board}}

abbrev pub secondary : Board → Path → ℕ
secondary b p = 1 + count_by (λ r. is_bridge r.decl && path_before r.path p) b

abbrev pub subordinate : Board → Path → ℕ
subordinate b p = secondary b p + count_by (λ r. is_bridge r.decl && is_ancestor_of p r.path) b

-- the number of the bus behind a bridge; [] means bus 0
abbrev pub bus_behind : Board → Path → ℕ
bus_behind b [] = 0
bus_behind b (p ∷ ps) = secondary b (p ∷ ps)

-- the number of the bus that a function is on, which is a bridge's Primary Bus Number
abbrev pub bus_of : Board → Path → ℕ
bus_of b p = bus_behind b (parent p)

abbrev pub bridge_count : Board → ℕ
bridge_count b = count_by (λ r. is_bridge r.decl) b

-- at most 255 bridges, because bus numbers end at 255: as a test, and as a proposition
abbrev pub numbers_suffice : Board → Bool
numbers_suffice b = nat_le (bridge_count b) 255

abbrev pub Enumerates : Board → Type 0
Enumerates b = bridge_count b ≤ 255
