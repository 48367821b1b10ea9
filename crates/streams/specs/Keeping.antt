-- A buffer: its bytes, the free space behind them, and its capacity.
use Rattle.std.specs.Prelude.{ℕ, List}

pub record KeptBytes : Type 0 where
  pub bytes : List ℕ
  pub room : ℕ
  pub capacity : ℕ
