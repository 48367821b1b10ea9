use Rattle.board_told.proofs.Alone.{equal_guests, equal_along}
use Rattle.board_told.proofs.own_state_alone_decides_why.Goals as goal

pub returns : goal.returns
returns c = record { equal = equal_guests; along = equal_along }
