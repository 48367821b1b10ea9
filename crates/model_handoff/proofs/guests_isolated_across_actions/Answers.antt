use Rattle.model_handoff.proofs.Actions.{isolated_by_actions}
use Rattle.model_handoff.proofs.guests_isolated_across_actions.Goals as goal

pub returns : goal.returns
returns c = isolated_by_actions
