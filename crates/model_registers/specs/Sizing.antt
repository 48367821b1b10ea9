-- How software determines the size of a region: PCI Local Bus 3.0, chapter 6.2.5.1. It writes all ones to the
-- region's registers and reads them back.
--     sized n b      the cells of b's registers from index n on, after all ones are written
--     mask_of b      the value that they then read, all bytes as one number
--     ShowsSize b low high      the values that they then read; high doesn't matter if the base uses one register
use Rattle.std.specs.Prelude.{◌≡◌, ℕ, ◌-◌, ◌+◌, ◌*◌, ◌/◌, ◌%◌, ◌^◌}
use Rattle.model_registers.specs.{Registers.{File, write, all_bytes, all_ones, number}, Declarations.{Bar, registers_of, IsLawfulSize}, EndpointTable.{base_register, type_bits, base_width, base_cells}}

abbrev pub sized : ℕ → Bar → File
sized n b =
    write (all_bytes (4 * registers_of b.kind)) (all_ones (4 * registers_of b.kind)) (base_register n)
    (base_cells n b.kind b.size 0)

abbrev pub mask_of : Bar → ℕ
mask_of b = 2 ^ base_width b.kind - b.size + type_bits b.kind

pub record ShowsSize (b : Bar) (low high : ℕ) : Type 0 where
  pub lower : number (sized 0 b) (base_register 0) 4 ≡ low
  pub upper : registers_of b.kind ≡ 2 → number (sized 0 b) (base_register 1) 4 ≡ high

-- each half reads its part of the mask, at any index
pub record SizeReads (n : ℕ) (b : Bar) : Type 0 where
  pub lower : number (sized n b) (base_register n) 4 ≡ mask_of b % 2 ^ 32
  pub upper : registers_of b.kind ≡ 2 → number (sized n b) (base_register (n + 1)) 4 ≡ mask_of b / 2 ^ 32

abbrev pub SizesRead : Type 0
SizesRead = (n : ℕ) (b : Bar) → IsLawfulSize b.kind b.size → SizeReads n b
