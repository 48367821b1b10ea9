use Rattle.model_handoff.proofs.SetUpLaws.{set_up_agrees, set_up_is_only, set_up_at_first, set_up_keeps_routing, set_up_keeps_numbers, hit_reaches_region}
use Rattle.model_handoff.proofs.one_board_state_after_set_up.Goals as goal

pub returns : goal.returns
returns c = search (set_up_agrees, set_up_is_only, set_up_at_first, set_up_keeps_routing, set_up_keeps_numbers, hit_reaches_region)
