use Rattle.std.proofs.Common.{arith}
use Rattle.board_refusal.proofs.refusals.place_of_error.Goals as goal

pub returns-in-Some : goal.returns-in-Some
returns-in-Some c = grind arith
