-- The state of the host bridge, as contracts see it.
--     HostState      the registers of the whole board with CONFIG_ADDRESS, and the apertures
--     with_functions fs h, with_latch n h      the host with other registers, and with another CONFIG_ADDRESS
use Rattle.std.specs.Prelude.{List, ℕ}
use Rattle.model_board.specs.State.{BoardFunction, State}
use Rattle.model_registers.specs.Apertures.{Apertures}

pub record HostState : Type 0 where
  pub state : State
  pub apertures : Apertures

abbrev pub with_functions : List BoardFunction → HostState → HostState
with_functions fs h = record h { state = record h.state { functions = fs } }

abbrev pub with_latch : ℕ → HostState → HostState
with_latch n h = record h { state = record h.state { latch = n } }
