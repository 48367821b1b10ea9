use Rattle.std.proofs.Common.{arith}
use Rattle.board_told.proofs.ClosedSlots.{holds_by_offset}
use Rattle.board_told.proofs.closed.contains_address.Goals as goal

pub returns : goal.returns
returns c = grind (arith, holds_by_offset)
