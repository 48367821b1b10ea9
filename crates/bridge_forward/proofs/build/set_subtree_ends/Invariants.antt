use Rattle.bridge_forward.proofs.Extents.{Done}
use Rattle.bridge_forward.proofs.build.set_subtree_ends.Given as goal

abbrev pub invariant-loop-i : goal.invariant-loop-i
invariant-loop-i l = Done l.nodes l.initial.nodes l.i
