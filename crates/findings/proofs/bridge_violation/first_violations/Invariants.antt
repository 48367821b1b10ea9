use Rattle.std.{proofs.Common.{◌≡◌, ◌++◌, drop}, specs.Prelude.flat_map}
use Rattle.findings.specs.{Regions.regions_of, BridgeViolations.{bars_to_check, blames_of}}
use Rattle.findings.proofs.bridge_violation.first_violations.Given as goal

abbrev pub invariant-loop-row : goal.invariant-loop-row
invariant-loop-row l =
    l.told.items ++ flat_map (λ r. flat_map (blames_of l.charge l.rows) (regions_of (bars_to_check l.charge) r)) (drop l.row-index l.rows)
    ≡ flat_map (λ r. flat_map (blames_of l.charge l.rows) (regions_of (bars_to_check l.charge) r)) l.rows
