use Rattle.model_handoff.proofs.FunctionSeats.{reported_slot_holds_function, no_seat_holds}
use Rattle.model_handoff.proofs.reported_slot_holds_function.Goals as goal

pub returns : goal.returns
returns c = search (reported_slot_holds_function, no_seat_holds)
