use Rattle.std.proofs.Common.{◌-◌, length}
use Rattle.bridge_forward.{specs.Layout.paths_of, proofs.Extents.Behind}
use Rattle.bridge_forward.proofs.build.subtree_end.Given as goal

abbrev pub invariant-loop-end : goal.invariant-loop-end
invariant-loop-end l = Behind (paths_of l.nodes) l.i l.end

abbrev pub decreases-loop-end : goal.decreases-loop-end
decreases-loop-end l = length l.nodes - l.end
