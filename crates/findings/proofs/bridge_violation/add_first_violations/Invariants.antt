use Rattle.std.{proofs.Common.{◌≡◌, ◌++◌, map, drop}, specs.Prelude.flat_map}
use Rattle.findings.specs.BridgeViolations.{blames_of}
use Rattle.findings.proofs.bridge_violation.add_first_violations.Given as goal

abbrev pub invariant-loop-region : goal.invariant-loop-region
invariant-loop-region l =
    l.told.items ++ flat_map (blames_of l.charge (map (λ r. r.now) l.above)) (drop l.region-index l.regions)
    ≡ l.initial.told.items ++ flat_map (blames_of l.charge (map (λ r. r.now) l.above)) l.regions
