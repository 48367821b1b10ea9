use Rattle.std.proofs.Common.{◌≡◌, map, drop}
use Rattle.lists.specs.Elements.{first_some}
use Rattle.findings.specs.BridgeViolations.{blame}
use Rattle.findings.proofs.bridge_violation.first_violation.Given as goal

abbrev pub invariant-loop-row : goal.invariant-loop-row
invariant-loop-row l = first_some (blame l.charge l.region) (map (λ r. r.now) (drop l.row-index l.above)) ≡ first_some (blame l.charge l.region) (map (λ r. r.now) l.above)
