use Rattle.std.proofs.Common.{◌≡◌, map, take}
use Rattle.model_board.specs.State.{row_at}
use Rattle.bridge_forward.specs.Layout.{function_of}
use Rattle.bridge_forward.proofs.bus.copy_declarations.Given as goal

abbrev pub invariant-loop-node : goal.invariant-loop-node
invariant-loop-node l = l.decls.items ≡ map row_at (map function_of (take l.node-index l.nodes))
