use Rattle.model_handoff.proofs.Giving.{board_after_taking, lawful_after_taking, shown_after_taking}
use Rattle.model_handoff.proofs.unassigning_resets_function.Goals as goal

pub returns : goal.returns
returns c = record { board = board_after_taking; lawful = lawful_after_taking; shown = shown_after_taking }
