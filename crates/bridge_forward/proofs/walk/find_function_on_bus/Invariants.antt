use Rattle.std.proofs.Common.{[], ◌∷◌, ◌++◌, ◌-◌, ◌≤◌}
use Rattle.bridge_forward.proofs.Halving.{Halved}
use Rattle.bridge_forward.proofs.walk.find_function_on_bus.Given as goal

abbrev pub invariant-loop-low : goal.invariant-loop-low
invariant-loop-low l = record {
  begun : l.from ≤ l.low;
  within : l.high ≤ l.to;
  halved : Halved l.nodes (l.bus ++ record { device = l.device; function = l.function } ∷ []) l.low l.high;
}

abbrev pub decreases-loop-low : goal.decreases-loop-low
decreases-loop-low l = l.high - l.low
