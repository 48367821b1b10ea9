-- Bounds on the addresses of a function's regions.
--     IsOutside e a      the address is below the least or above the greatest address of an extent
--     IsExtent space first last slots e      every address from first to last that is in a region of the space
--                                            is in the extent
--     AreExtents slots e      the extents of all ports, of all memory, of memory below 4 GB, and of memory from 4 GB on
use Rattle.std.specs.Prelude.{◌≡◌, ℕ, ◌<◌, ◌≤◌, ◌^◌, ◌-◌, ◌⊎◌, List, Option, None}
use Rattle.model_registers.specs.Decoding.{Space, io, memory}
use Rattle.bars.specs.{declared.{region.BarWithBase.BarWithBase, extent.{Extent.Extent, Extents.Extents}}, Hits.hit_from}

abbrev pub IsOutside : Extent → ℕ → Type 0
IsOutside e a = (a < e.least) ⊎ (e.greatest < a)

abbrev pub IsExtent : Space → ℕ → ℕ → List (Option BarWithBase) → Extent → Type 0
IsExtent space first last slots e = (a : ℕ) → first ≤ a → a ≤ last → IsOutside e a → hit_from space a 0 slots ≡ None

abbrev pub AreExtents : List (Option BarWithBase) → Extents → Type 0
AreExtents slots e =
    IsExtent io 0 (2 ^ 64 - 1) slots e.io
    × IsExtent memory 0 (2 ^ 64 - 1) slots e.mem
    × IsExtent memory 0 (2 ^ 32 - 1) slots e.low
    × IsExtent memory (2 ^ 32) (2 ^ 64 - 1) slots e.high
