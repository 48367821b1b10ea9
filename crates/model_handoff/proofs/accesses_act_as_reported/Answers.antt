use Rattle.model_handoff.proofs.Landings.{access_lands, nothing_hit}
use Rattle.model_handoff.proofs.accesses_act_as_reported.Goals as goal

pub returns : goal.returns
returns c = record { lands = access_lands; nothing = nothing_hit }
