use Rattle.std.proofs.Common.{◌≡◌, map, take}
use Rattle.bars.specs.Slots.{bases_from}
use Rattle.bridge_forward.specs.RoutingRows.{base_of}
use Rattle.bridge_forward.proofs.routing.collect_regions.Given as goal

abbrev pub invariant-loop-index : goal.invariant-loop-index
invariant-loop-index l = map base_of l.regions.items ≡ bases_from 0 (take l.index l.slots)
