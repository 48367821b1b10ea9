use Rattle.std.proofs.Common.{◌-◌, ◌≤◌, length}
use Rattle.bridge_forward.proofs.Halving.{Halved}
use Rattle.bridge_forward.proofs.walk.find_index_of_path.Given as goal

abbrev pub invariant-loop-low : goal.invariant-loop-low
invariant-loop-low l = record {
  within : l.high ≤ length l.nodes;
  halved : Halved l.nodes l.path l.low l.high;
}

abbrev pub decreases-loop-low : goal.decreases-loop-low
decreases-loop-low l = l.high - l.low
