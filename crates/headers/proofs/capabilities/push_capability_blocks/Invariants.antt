use Rattle.std.proofs.Common.{◌≡◌, ◌++◌, length}
use Rattle.model_registers.specs.Capabilities.{structures}
use Rattle.headers.proofs.capabilities.push_capability_blocks.Given as goal

abbrev pub invariant-loop-first : goal.invariant-loop-first
invariant-loop-first l = l.blocks.items ++ structures l.left ≡ l.fn.blocks.items ++ structures l.list

abbrev pub decreases-loop-first : goal.decreases-loop-first
decreases-loop-first l = length l.left
