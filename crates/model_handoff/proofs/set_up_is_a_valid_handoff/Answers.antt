use Rattle.model_handoff.proofs.SetUpCase.{set_up_is_handoff, set_up_is_in_order, set_up_can_be_given, set_up_places, set_up_addresses}
use Rattle.model_handoff.proofs.set_up_is_a_valid_handoff.Goals as goal

pub returns : goal.returns
returns c = search (set_up_is_handoff, set_up_is_in_order, set_up_can_be_given, set_up_places, set_up_addresses)
