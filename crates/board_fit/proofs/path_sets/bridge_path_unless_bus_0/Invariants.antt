use Rattle.std.proofs.Common.{◌≡◌, ◌+◌, ◌++◌, drop, length}
use Rattle.board_fit.proofs.path_sets.bridge_path_unless_bus_0.Given as goal

abbrev pub invariant-rest : goal.invariant-rest
invariant-rest l = (length l.bridge ≡ 1 + l.part-index) × (l.bridge ++ drop l.part-index l.rest ≡ l.fn.bus)
