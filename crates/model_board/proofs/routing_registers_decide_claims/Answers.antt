use Rattle.model_board.proofs.Routing.{forwarded_by_routing, claims_by_routing, first_by_routing, same_claims, routing_of_cells, routing_of_change}
use Rattle.model_board.proofs.routing_registers_decide_claims.Goals as goal

pub returns : goal.returns
returns c = record { forwarded = forwarded_by_routing; claims = claims_by_routing; first = first_by_routing; same = same_claims; cells = routing_of_cells; change = routing_of_change }
