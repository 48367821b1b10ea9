-- The regions that begin at six registers, one by one.
--     slot_row      what C is told of a register, from the program's word
--     row_told      that it is what the definitions tell of the register
--     six_alike      six such rows
use Rattle.std.{proofs.{Common.{◌≡◌, ℕ, zero, suc, ◌+◌, ◌<◌, List, [], ◌∷◌, Option, Some, None, length, get_or, refl, sym, ◌∙◌, arith}, lemmas.Bool.{eq-eqb, ne_eqb}}, specs.{Prelude.{find, ◌==◌}, Option.option_map_or}}
use Rattle.model_registers.specs.EndpointTable.{BaseAddress}
use Rattle.bars.specs.{declared.region.BarWithBase.BarWithBase, Slots.{placed, bases_from}}
use Rattle.pciguest_c.specs.{declared.values.function_row.RegionRow.RegionRow, FunctionsTold.{region_row, no_region, region_row_at}}

abbrev pub slot_row : Option BarWithBase → RegionRow
slot_row slot = option_map_or (λ (r : BarWithBase). region_row (placed 0 r)) slot no_region

-- no register before the first of a list
none_from : (slots : List (Option BarWithBase)) (k j : ℕ) → j < k
    → find (λ (b : BaseAddress). b.index == j) (bases_from k slots) ≡ None
none_from [] k j before = refl
none_from (None ∷ slots) k j before = none_from slots (k + 1) j (omega arith)
none_from (Some r ∷ slots) k j before = grind (arith, ne_eqb, none_from slots (k + 1) j)

-- k is the index of the first register of the list
row_from : (slots : List (Option BarWithBase)) (k j n : ℕ) (d : Option BarWithBase) → j ≡ k + n → n < length slots
    → region_row_at (bases_from k slots) j ≡ slot_row (get_or slots n d)
row_from [] k j n d is within = absurd (omega arith)
row_from (None ∷ slots) k j zero d is within = rw (none_from slots (k + 1) j (omega arith)) refl
row_from (None ∷ slots) k j (suc n) d is within = row_from slots (k + 1) j n d (omega arith) (omega arith)
row_from (Some r ∷ slots) k j zero d is within = rw (eq-eqb k j (omega arith)) refl
row_from (Some r ∷ slots) k j (suc n) d is within = grind (arith, ne_eqb, row_from slots (k + 1) j n d)

pub row_told : (slots : List (Option BarWithBase)) → length slots ≡ 6 → (j : ℕ) → j < 6 → (d : Option BarWithBase) (row : RegionRow)
    → row ≡ slot_row (get_or slots j d) → row ≡ region_row_at (bases_from 0 slots) j
row_told slots six j within d row is = is ∙ sym (row_from slots 0 j j d (omega arith) (omega arith))

pub six_alike : (a b c d e f p q r s t u : RegionRow) → a ≡ p → b ≡ q → c ≡ r → d ≡ s → e ≡ t → f ≡ u
    → (a ∷ b ∷ c ∷ d ∷ e ∷ f ∷ []) ≡ (p ∷ q ∷ r ∷ s ∷ t ∷ u ∷ [])
six_alike a b c d e f p q r s t u a-is b-is c-is d-is e-is f-is = cc
