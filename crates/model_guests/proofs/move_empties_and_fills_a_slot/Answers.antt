use Rattle.model_guests.proofs.MoveIndices.{move_within, move_between, inputs_within, moved_function}
use Rattle.model_guests.proofs.move_empties_and_fills_a_slot.Goals as goal

pub returns : goal.returns
returns c = record { within = move_within; between = move_between; inputs = inputs_within; slots = moved_function }
