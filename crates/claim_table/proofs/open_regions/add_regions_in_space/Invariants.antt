use Rattle.std.proofs.Common.{◌≡◌, ◌++◌, map, drop}
use Rattle.bars.specs.Kinds.{named_space}
use Rattle.bridge_forward.specs.RoutingRows.{base_of}
use Rattle.claim_table.specs.Entries.{entry_for, of_space}
use Rattle.claim_table.proofs.open_regions.add_regions_in_space.Given as goal

abbrev pub invariant-loop-region : goal.invariant-loop-region
invariant-loop-region l = l.entries.items ++ map (entry_for l.function) (of_space (named_space l.space) (map base_of (drop l.region-index l.regions)))
    ≡ l.initial.entries.items ++ map (entry_for l.function) (of_space (named_space l.space) (map base_of l.regions))
