use Rattle.model_handoff.proofs.AfterSetUp.{set_up_isolates, set_up_two_worlds}
use Rattle.model_handoff.proofs.guests_isolated_after_set_up.Goals as goal

pub returns : goal.returns
returns c = record { isolated = set_up_isolates; two_worlds = set_up_two_worlds }
