use Rattle.std.proofs.Common.{◌≡◌, ◌++◌, map, drop}
use Rattle.bridge_forward.specs.RoutingRows.{base_of}
use Rattle.findings.specs.Regions.{regions_among}
use Rattle.findings.proofs.regions.add_selected_bars.Given as goal

abbrev pub invariant-loop-region : goal.invariant-loop-region
invariant-loop-region l =
    l.told.items ++ regions_among l.sort l.path l.command (map base_of (drop l.region-index l.regions))
    ≡ l.initial.told.items ++ regions_among l.sort l.path l.command (map base_of l.regions)
