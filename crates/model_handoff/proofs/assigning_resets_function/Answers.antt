use Rattle.model_handoff.proofs.Giving.{board_after_gift, lawful_after_gift, shown_after_gift, given_function}
use Rattle.model_handoff.proofs.assigning_resets_function.Goals as goal

pub returns : goal.returns
returns c = record { board = board_after_gift; lawful = lawful_after_gift; shown = shown_after_gift; function = given_function }
