use Rattle.model_guests.proofs.{SeatedFirst.seated_at_first, Seats.seated_after_events, SeatedMoves.seated_after_moves, Along.{seated_along, handoff_stays, names_stay, names_along, by_index}}
use Rattle.model_guests.proofs.functions_stay_in_one_slot.Goals as goal

pub returns : goal.returns
returns c = search (seated_at_first, seated_after_events, seated_after_moves, seated_along, names_stay, names_along, handoff_stays, by_index)
