use Rattle.model_handoff.proofs.{Agreement.{state_agrees, state_is_only}, First.{first_is_reset, first_is_handoff}}
use Rattle.model_handoff.proofs.one_board_state_fits_guests.Goals as goal

pub returns : goal.returns
returns c = record { agrees = state_agrees; is_only = state_is_only; first = first_is_reset; at_reset = first_is_handoff }
