use Rattle.std.proofs.Common.{arith}
use Rattle.model_handoff.proofs.ResetCase.{reset_is_handoff}
use Rattle.session.proofs.Handed.{at_first}
use Rattle.session.proofs.board.Board.recreate_at_reset.Goals as goal

pub invariant_of-result : goal.invariant_of-result
invariant_of-result c = grind (arith, at_first, reset_is_handoff)
