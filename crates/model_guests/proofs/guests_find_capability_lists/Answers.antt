use Rattle.model_guests.proofs.CapabilityLists.{guests_find_lists, board_shows_lists}
use Rattle.model_guests.proofs.guests_find_capability_lists.Goals as goal

pub returns : goal.returns
returns c = record { guests = guests_find_lists; board = board_shows_lists }
