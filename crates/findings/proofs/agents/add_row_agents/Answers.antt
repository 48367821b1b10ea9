use Rattle.std.{proofs.Common.{◌≡◌, ◌++◌, List, map, ap, sym, subst, ◌∙◌}, specs.Prelude.OnOk}
use Rattle.model_board.specs.Routing.{RoutingRow, regions}
use Rattle.model_set_up.specs.PlacedRegions.{PlacedRegion}
use Rattle.model_findings.specs.Agents.{Agent, region_agent}
use Rattle.bridge_forward.specs.RoutingRows.{base_of, named_ranges}
use Rattle.findings.{specs.{Regions.regions_of, declared.regions.Sort.TheVariants.Open}, proofs.Sorts.agents_are}
use Rattle.findings.proofs.agents.add_row_agents.Goals as goal

pub returns-in_ok-add_selected_of_function-in-Regions : goal.returns-in_ok-add_selected_of_function-in-Regions
returns-in_ok-add_selected_of_function-in-Regions c =
    let row = c.args.row.now in
    let held : row.ranges ≡ regions (map base_of c.in-Regions.field-0.items) = ap (λ (x : RoutingRow). x.ranges) (sym c.row.view_is) ∙ ap named_ranges c.in-Regions.is in
    let opened = c.deref.ensures.value ∙ c.in_ok-add_selected_of_function-in-Regions.ensures ∙ ap (λ (qs : List PlacedRegion). qs ++ regions_of Open row) c.new-regions.ensures.items in
    subst (λ (told : List Agent). OnOk c.add_region_agents.result (c.add_region_agents.new.told.items ≡ c.args.told.now.items ++ told)) (ap (map region_agent) opened ∙ agents_are row (map base_of c.in-Regions.field-0.items) held) c.add_region_agents.ensures
