use Rattle.model_guests.proofs.Resets.{reset_by_moves, reset_reaches_board}
use Rattle.model_guests.proofs.reset_is_a_move_out_and_back.Goals as goal

pub returns : goal.returns
returns c = record { moves = reset_by_moves; board = reset_reaches_board }
