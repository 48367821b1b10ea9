use Rattle.std.proofs.Common.{◌≡◌, map, take}
use Rattle.model_board.specs.Routing.{row_of}
use Rattle.bridge_forward.specs.Layout.{function_of}
use Rattle.bridge_forward.proofs.bus.Bus.routing_rows.Given as goal

abbrev pub invariant-loop-node : goal.invariant-loop-node
invariant-loop-node l = l.rows.items ≡ map row_of (map function_of (take l.node-index l.node-items))
