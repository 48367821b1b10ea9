use Rattle.std.proofs.Common.{◌≡◌, ◌++◌, length}
use Rattle.model_registers.specs.Capabilities.{capabilities_linked_forward}
use Rattle.headers.proofs.capabilities.capabilities_linked_forward.Given as goal

abbrev pub invariant-loop-block : goal.invariant-loop-block
invariant-loop-block l = l.found.items ++ capabilities_linked_forward l.at l.left ≡ capabilities_linked_forward l.first l.blocks

abbrev pub decreases-loop-block : goal.decreases-loop-block
decreases-loop-block l = length l.left
