use Rattle.std.proofs.Common.{arith}
use Rattle.model_handoff.proofs.Served.{fault_decides}
use Rattle.session.proofs.board.Board.hand_over.Goals as goal

pub returns-in-Ok-clause-given : goal.returns-in-Ok-clause-given
returns-in-Ok-clause-given c = grind (arith, fault_decides)

pub returns-in-Err-clause-refused : goal.returns-in-Err-clause-refused
returns-in-Err-clause-refused c = grind arith
