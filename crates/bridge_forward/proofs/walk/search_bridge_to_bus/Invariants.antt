use Rattle.std.proofs.Common.{◌-◌, length}
use Rattle.model_board.specs.Paths.{Path}
use Rattle.bridge_forward.{specs.{Layout.IsLaidOut, Search.IsSide}, proofs.Reaching.Passing}
use Rattle.bridge_forward.proofs.walk.search_bridge_to_bus.Given as goal

abbrev pub invariant-loop-at : goal.invariant-loop-at
invariant-loop-at l = record {
  above : Path;
  side : IsSide l.nodes above l.from l.to;
  passing : (laid : IsLaidOut l.nodes) → Passing l.nodes laid l.bus above;
}

abbrev pub decreases-loop-at : goal.decreases-loop-at
decreases-loop-at l = length l.nodes - l.from
