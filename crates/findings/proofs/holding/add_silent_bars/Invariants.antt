use Rattle.std.proofs.Common.{◌≡◌, ◌++◌, map, drop}
use Rattle.bars.specs.Kinds.{named_space}
use Rattle.model_findings.specs.OpenRegions.{region_now}
use Rattle.bridge_forward.specs.RoutingRows.{base_of}
use Rattle.findings.specs.WhyByRows.{held_in}
use Rattle.findings.proofs.holding.add_silent_bars.Given as goal

abbrev pub invariant-loop-region : goal.invariant-loop-region
invariant-loop-region l =
    l.held.items ++ held_in (named_space l.asked.space) l.asked.addr l.asked.answer l.command (map (region_now l.path) (map base_of (drop l.region-index l.regions)))
    ≡ l.initial.held.items ++ held_in (named_space l.asked.space) l.asked.addr l.asked.answer l.command (map (region_now l.path) (map base_of l.regions))
