-- Lawful regions without their blocks.
use Rattle.std.proofs.Common.{◌+◌, ◌≤◌, List, [], ◌∷◌, map, arith}
use Rattle.lists.specs.Elements.{Each, EachPair}
use Rattle.model_registers.specs.{Declarations.{Region, registers_of, IsLawfulRegion, HasLawfulRegions}, OwnCopies.bare}

pub bare_each : (rs : List Region) → Each IsLawfulRegion rs → Each IsLawfulRegion (map bare rs)
bare_each [] h = tt
bare_each (r ∷ rs) h = (record { registers = h.0.registers; size_is_lawful = h.0.size_is_lawful; block_fits = omega arith }, bare_each rs h.1)

abbrev pub Follows : Region → Region → Type 0
Follows r s = r.index + registers_of r.kind ≤ s.index

bare_after : (r : Region) (rs : List Region) → Each (Follows r) rs → Each (Follows (bare r)) (map bare rs)
bare_after r [] h = tt
bare_after r (s ∷ rs) h = (h.0, bare_after r rs h.1)

pub bare_order : (rs : List Region) → EachPair Follows rs → EachPair Follows (map bare rs)
bare_order [] h = tt
bare_order (r ∷ rs) h = (bare_after r rs h.0, bare_order rs h.1)

-- lawful regions stay lawful without their blocks
pub bare_lawful : (rs : List Region) → HasLawfulRegions rs → HasLawfulRegions (map bare rs)
bare_lawful rs h = record { each = bare_each rs h.each; in_order = bare_order rs h.in_order }
