use Rattle.std.proofs.Common.{◌≡◌}
use Rattle.bridge_forward.proofs.BlocksReset.{first_after}
use Rattle.bridge_forward.proofs.blocks.reset_all.Given as goal

abbrev pub invariant-loop-block : goal.invariant-loop-block
invariant-loop-block l = l.blocks ≡ first_after l.block-index l.initial.blocks
