-- A window as a pair of addresses.
use Rattle.std.specs.Prelude.{ℕ}
use Rattle.model_registers.specs.Windows.{Window}

-- the first and last address, both included
abbrev pub pair_of : Window → ℕ × ℕ
pair_of w = (w.first, w.last)
