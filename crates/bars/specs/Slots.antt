-- The six BAR registers of a function as the program stores them: each region is at the index of its first register.
--     placed      a region at the index of its first register
--     with_no_base_in      a slot whose region has base 0
--     slot_at      the region at an index
--     bases_from      the BARs of the slots, whose first index is given
use Rattle.std.specs.Prelude.{ℕ, ◌+◌, List, [], ◌∷◌, Option, Some, None, unwrap_or, option_map, slice_get}
use Rattle.model_registers.specs.EndpointTable.{BaseAddress}
use Rattle.bars.specs.declared.region.BarWithBase.{BarWithBase}

abbrev pub placed : ℕ → BarWithBase → BaseAddress
placed n r = record { index = n; kind = r.decl.kind; size = r.decl.size; base = r.base }

abbrev pub bases_from : ℕ → List (Option BarWithBase) → List BaseAddress
bases_from n [] = []
bases_from n (None ∷ slots) = bases_from (n + 1) slots
bases_from n (Some r ∷ slots) = placed n r ∷ bases_from (n + 1) slots

abbrev pub slot_at : List (Option BarWithBase) → ℕ → Option BarWithBase
slot_at slots i = unwrap_or (slice_get slots i) None

abbrev pub with_no_base_in : Option BarWithBase → Option BarWithBase
with_no_base_in slot = option_map (λ (r : BarWithBase). record r { base = 0 }) slot
