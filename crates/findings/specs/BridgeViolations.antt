-- Bridges that violate a rule for a region behind them, in the code's types: they don't forward a byte of an enabled
-- region, or they prefetch a byte of a region that isn't prefetchable.
--     bars_to_check c      the regions to check for this kind of violation
--     first_violating_address c r q      the lowest address of a region that the bridge of a row mishandles
--     blame c q r      the bridge's violation, if the bridge is above the region
--     blames_of c rows q, first_violations c rows      the violation of the first such bridge above a region; for all regions
--     unforwarded_problem, prefetched_issue      the problem or readiness issue for a violation
use Rattle.std.specs.{Prelude.{List, ℕ, if◌then◌else◌, Option, None, flat_map}, Option.{option_map, option_to_list}}
use Rattle.lists.specs.Elements.{first_some}
use Rattle.model_board.specs.{Paths.is_ancestor_of, Routing.RoutingRow}
use Rattle.model_set_up.specs.PlacedRegions.{PlacedRegion}
use Rattle.model_findings.specs.{Problems.{Problem, not_forwarded, first_unforwarded_address}, ReadinessIssues.{ReadinessIssue, prefetched_by, first_prefetched_address}}
use Rattle.findings.specs.{Regions.all_selected_bars, declared.{regions.Sort.{Sort, TheVariants.{Open, Plain}}, bridge_violation.{BridgeViolation.BridgeViolation, ViolationKind.{ViolationKind, TheVariants.{NotForwarded, Prefetched}}}}}

abbrev pub bars_to_check : ViolationKind → Sort
bars_to_check NotForwarded = Open
bars_to_check Prefetched = Plain

abbrev pub first_violating_address : ViolationKind → RoutingRow → PlacedRegion → Option ℕ
first_violating_address NotForwarded r q = first_unforwarded_address r q
first_violating_address Prefetched r q = first_prefetched_address r q

abbrev pub blame : ViolationKind → PlacedRegion → RoutingRow → Option BridgeViolation
blame c q r =
    if is_ancestor_of r.path q.path
    then option_map (λ n. record { region = q; bridge = r.path; address = n }) (first_violating_address c r q) else None

abbrev pub blames_of : ViolationKind → List RoutingRow → PlacedRegion → List BridgeViolation
blames_of c rows q = option_to_list (first_some (blame c q) rows)

abbrev pub first_violations : ViolationKind → List RoutingRow → List BridgeViolation
first_violations c rows = flat_map (blames_of c rows) (all_selected_bars (bars_to_check c) rows)

abbrev pub unforwarded_problem : BridgeViolation → Problem
unforwarded_problem b = not_forwarded b.region b.bridge b.address

abbrev pub prefetched_issue : BridgeViolation → ReadinessIssue
prefetched_issue b = prefetched_by b.region b.bridge b.address
