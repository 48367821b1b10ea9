use Rattle.std.proofs.Common.{◌≡◌, ◌++◌, take}
use Rattle.bus_scan.proofs.bus_parts.path_at_devfn.Given as goal

abbrev pub invariant-loop-above : goal.invariant-loop-above
invariant-loop-above l = l.path ≡ l.initial.path ++ take l.above-index l.rest
