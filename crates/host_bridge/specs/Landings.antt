-- The board's own routing, with endpoints identified by their index.
--     IsLanding fs l width      the first claim of an address that is a multiple of the width
--     IsReached fs i      configuration cycles to some BDF reach the function at this index
use Rattle.std.specs.Prelude.{ℕ, List, Some, ◌≡◌, ◌<◌, ◌%◌, length, slice_get}
use Rattle.model_registers.specs.Decoding.{Space}
use Rattle.model_board.specs.{State.BoardFunction, Cycles.{BusAddress, reached}, Claims.first_claim}
use Rattle.bridge_forward.specs.{declared.bus.BarOffset.BarOffset, Locating.located_claim}

pub record IsLanding (fs : List BoardFunction) (l : BarOffset) (width : ℕ) : Type 0 where
  pub space : Space
  pub address : ℕ
  pub aligned : address % width ≡ 0
  pub claim : located_claim fs (Some l) ≡ first_claim fs space address
  pub within : l.index < length fs

pub record IsReached (fs : List BoardFunction) (i : ℕ) : Type 0 where
  pub at : BusAddress
  pub reaches : reached fs at ≡ slice_get fs i
