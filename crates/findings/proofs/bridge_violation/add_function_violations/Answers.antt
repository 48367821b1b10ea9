use Rattle.std.{proofs.Common.{◌≡◌, ◌++◌, List, map, ap, subst, ◌∙◌}, specs.Prelude.{OnOk, filter, flat_map}}
use Rattle.model_board.specs.{Paths.is_ancestor_of, Routing.RoutingRow}
use Rattle.model_set_up.specs.PlacedRegions.{PlacedRegion}
use Rattle.findings.{specs.{Regions.regions_of, BridgeViolations.blames_of, declared.{regions.Sort.Sort, bridge_violation.BridgeViolation.BridgeViolation}}, proofs.Above.function_blames}
use Rattle.findings.proofs.bridge_violation.add_function_violations.Goals as goal

pub returns : goal.returns
returns c =
    let rows = c.args.rows.now in
    let row = c.args.row.now in
    let charge = c.args.charge in
    let above = ap (map (λ r. r.now)) c.deref.ensures.value ∙ c.in_ok-above.ensures ∙ ap (λ (x : RoutingRow). filter (λ (r : RoutingRow). is_ancestor_of r.path x.path) rows) c.row.view_is in
    let regions = c.deref-2.ensures.value ∙ c.in_ok-add_selected_of_function.ensures ∙ ap (λ (qs : List PlacedRegion). qs ++ regions_of c.bars_to_check.result row) c.new-regions.ensures.items ∙ ap (λ (s : Sort). regions_of s row) c.bars_to_check.ensures in
    let whole = ap (flat_map (blames_of charge (map (λ r. r.now) c.deref.result.now))) regions ∙ function_blames charge rows (map (λ r. r.now) c.deref.result.now) row above in
    subst (λ (bs : List BridgeViolation). OnOk c.add_first_violations.result (c.add_first_violations.new.told.items ≡ c.args.told.now.items ++ bs)) whole c.add_first_violations.ensures
