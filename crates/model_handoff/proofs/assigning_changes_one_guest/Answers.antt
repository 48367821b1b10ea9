use Rattle.model_handoff.proofs.Giving.{others_after_gift, others_after_taking, given_back}
use Rattle.model_handoff.proofs.assigning_changes_one_guest.Goals as goal

pub returns : goal.returns
returns c = record { gift = others_after_gift; taking = others_after_taking; back = given_back }
