-- Regions by the index of their first register, and rows of the table before and after sizing: PCI Local Bus 3.0,
-- chapter 6.2.5.1.
--     bar_at      the region that starts at a register
--     is_upper_half, is_after_wide      the register is the upper half of a 64-bit base, judged by all regions, and by
--         what starts before it
--     bars_of      the regions that start at the six registers
--     IsScannedRow, SizesRow      a row after a scan, and after sizing
use Rattle.std.specs.{Prelude.{◌≡◌, List, [], ◌∷◌, ℕ, zero, suc, ◌+◌, Bool, false, ◌&&◌, ◌||◌, ◌==◌, if◌then◌else◌, Option, Some, None, map, slice_get, unwrap_or}, Option.option_map_or}
use Rattle.model_registers.specs.Declarations.{Bar, Region, registers_of}
use Rattle.lists.specs.Elements.{IsIn}
use Rattle.model_board.specs.Board.{Board, Row}
use Rattle.model_set_up.specs.FunctionTable.{TableRow, table_row, met_decl, found_decl}

abbrev pub bar_at : ℕ → List Region → Option Bar
bar_at n [] = None
bar_at n (r ∷ rs) = if n == r.index then Some (record { kind = r.kind; size = r.size }) else bar_at n rs

abbrev pub is_upper_half : ℕ → List Region → Bool
is_upper_half n [] = false
is_upper_half n (r ∷ rs) = registers_of r.kind == 2 && n == r.index + 1 || is_upper_half n rs

-- the same, by the slots before the register
abbrev pub is_after_wide : List (Option Bar) → ℕ → Bool
is_after_wide bars zero = false
is_after_wide bars (suc n) =
    option_map_or (λ (b : Bar). registers_of b.kind == 2) (unwrap_or (slice_get bars n) None) false

abbrev pub bars_of : List Region → List (Option Bar)
bars_of rs = map (λ n. bar_at n rs) (0 ∷ 1 ∷ 2 ∷ 3 ∷ 4 ∷ 5 ∷ [])

abbrev pub IsScannedRow : Board → TableRow → Type 0
IsScannedRow b row = (r : Row) × IsIn r b × (row ≡ table_row b met_decl r)

abbrev pub SizesRow : Board → TableRow → TableRow → Type 0
SizesRow b old new = (r : Row) → IsIn r b → old ≡ table_row b met_decl r → new ≡ table_row b found_decl r
