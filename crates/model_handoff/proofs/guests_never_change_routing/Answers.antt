use Rattle.std.proofs.Common.{arith}
use Rattle.model_handoff.proofs.Keeping.{keeps_board, keeps_bridges, keeps_numbers, keeps_routing, keeps_reach, keeps_addresses, keeps_problems, stays_in_order}
use Rattle.model_handoff.proofs.guests_never_change_routing.Goals as goal

pub returns : goal.returns
returns c = grind (arith, keeps_board, keeps_bridges, keeps_numbers, keeps_routing, keeps_reach, keeps_addresses, keeps_problems, stays_in_order)
