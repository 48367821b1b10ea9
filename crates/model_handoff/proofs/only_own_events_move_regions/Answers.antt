use Rattle.model_handoff.proofs.Staying.{only_own_events_move_regions}
use Rattle.model_handoff.proofs.only_own_events_move_regions.Goals as goal

pub returns : goal.returns
returns c = only_own_events_move_regions
