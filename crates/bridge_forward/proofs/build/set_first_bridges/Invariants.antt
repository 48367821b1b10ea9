use Rattle.std.proofs.Common.{◌≤◌, length}
use Rattle.bridge_forward.proofs.Skipping.{Linked}
use Rattle.bridge_forward.proofs.build.set_first_bridges.Given as goal

abbrev pub invariant-loop-i : goal.invariant-loop-i
invariant-loop-i l = record {
  within : l.i ≤ length l.initial.nodes;
  linked : Linked l.nodes l.initial.nodes l.i l.next;
}

abbrev pub decreases-loop-i : goal.decreases-loop-i
decreases-loop-i l = l.i
