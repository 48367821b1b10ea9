use Rattle.model_handoff.proofs.ResetCase.{reset_is_handoff}
use Rattle.model_handoff.proofs.reset_board_is_a_handoff.Goals as goal

pub returns : goal.returns
returns c = reset_is_handoff
