-- A board at reset is a handoff.
--     ResetIsHandoff      this law
use Rattle.model_board.specs.{AtReset.IsAtReset, State.State}
use Rattle.model_handoff.specs.Handoffs.{IsHandoff}

abbrev pub ResetIsHandoff : Type 0
ResetIsHandoff = (s : State) → IsAtReset s → IsHandoff s
