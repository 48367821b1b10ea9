-- The target of an address: the index of the region's first register, and the offset in the region.
--     offset_in      the offset of an address in a region, or `None` if the address isn't in the region
--     hit_from      the hit in the first region that contains the address; the first slot has index n
--     named_hit      the index and the offset, in the terms of the formal model
use Rattle.std.specs.Prelude.{List, [], ◌∷◌, ℕ, ◌+◌, ◌-◌, ◌&&◌, nat_le, nat_lt, if◌then◌else◌, Option, Some, None, option_map}
use Rattle.lists.specs.Elements.{first_of_two}
use Rattle.model_registers.specs.Decoding.{Space, same_space, space_of, Hit}
use Rattle.bars.specs.declared.region.BarWithBase.{BarWithBase}

abbrev pub offset_in : Space → ℕ → BarWithBase → Option ℕ
offset_in space a r =
    if same_space (space_of r.decl.kind) space && nat_le r.base a && nat_lt a (r.base + r.decl.size)
    then Some (a - r.base) else None

abbrev pub hit_in : ℕ → ℕ → Hit
hit_in n off = record { index = n; offset = off }

-- the first of the slots, which start at index n, whose region contains the address
abbrev pub hit_from : Space → ℕ → ℕ → List (Option BarWithBase) → Option Hit
hit_from space a n [] = None
hit_from space a n (None ∷ slots) = hit_from space a (n + 1) slots
hit_from space a n (Some r ∷ slots) =
    first_of_two (option_map (hit_in n) (offset_in space a r)) (hit_from space a (n + 1) slots)

abbrev pub named_hit : Option (ℕ × ℕ) → Option Hit
named_hit h = option_map (λ (p : ℕ × ℕ). hit_in p.0 p.1) h
