use Rattle.model_guests.proofs.{AgreedFiles.{writes_alike, raises_alike}, Changes.{one_file, changes_one_function, latch_keeps_board, resets_alike}, MovedFunctions.move_resets_one_function, Events.event_reaches_board}
use Rattle.model_guests.proofs.event_changes_one_function.Goals as goal

pub returns : goal.returns
returns c = search (writes_alike, raises_alike, resets_alike, one_file, changes_one_function, latch_keeps_board, move_resets_one_function, event_reaches_board)
