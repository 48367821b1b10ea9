use Rattle.std.proofs.Common.{◌≡◌, ◌++◌, map, drop}
use Rattle.model_findings.specs.Agents.{region_agent}
use Rattle.findings.proofs.agents.add_region_agents.Given as goal

abbrev pub invariant-loop-region : goal.invariant-loop-region
invariant-loop-region l = l.told.items ++ map region_agent (drop l.region-index l.regions) ≡ l.initial.told.items ++ map region_agent l.regions
