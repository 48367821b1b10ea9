use Rattle.std.proofs.Common.{◌-◌, ◌≤◌}
use Rattle.model_board.specs.Paths.{Path}
use Rattle.bridge_forward.{specs.{Layout.IsLaidOut, Search.IsSide}, proofs.Reached.Passed}
use Rattle.bridge_forward.proofs.walk.find_bridge_covering_bus.Given as goal

abbrev pub invariant-loop-i : goal.invariant-loop-i
invariant-loop-i l = record {
  begun : l.from ≤ l.i;
  passed : (laid : IsLaidOut l.nodes) (bus : Path) (side : IsSide l.nodes bus l.from l.to) → Passed l.nodes laid bus l.number l.from l.to side l.i;
}

abbrev pub decreases-loop-i : goal.decreases-loop-i
decreases-loop-i l = l.to - l.i
