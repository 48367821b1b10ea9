use Rattle.model_handoff.proofs.Views.{over_reset, reset_shown, reset_at_first, reset_after_events, reset_after_moves}
use Rattle.model_handoff.proofs.resetting_assigned_gives_handoff.Goals as goal

pub returns : goal.returns
returns c = search (over_reset, reset_shown, reset_at_first, reset_after_events, reset_after_moves)
