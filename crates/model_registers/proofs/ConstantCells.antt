-- Writes and raises leave a cell that always reads its value as it is.
use Rattle.std.{proofs.Common.{◌≡◌, ℕ, arith, refl}, specs.Int.Bits.{and_zero_l, and_zero_r, or_zero_r}}
use Rattle.model_registers.specs.Cell.{Cell, no_cell, IsConstant, written, raised}

pub constant_written : (b : ℕ) (c : Cell) → IsConstant c → written b c ≡ c
constant_written b c h = grind (arith, and_zero_l, and_zero_r, or_zero_r)

pub constant_raised : (m : ℕ) (c : Cell) → IsConstant c → raised m c ≡ c
constant_raised m c h = grind (arith, and_zero_r, or_zero_r)

pub no_cell_stays : (b : ℕ) → written b no_cell ≡ no_cell
no_cell_stays b = constant_written b no_cell (refl, refl, refl)

pub raised_none : (m : ℕ) → raised m no_cell ≡ no_cell
raised_none m = constant_raised m no_cell (refl, refl, refl)
