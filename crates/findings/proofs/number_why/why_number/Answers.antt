use Rattle.std.proofs.Common.{ap, ◌∙◌}
use Rattle.model_board.specs.Routing.{routing}
use Rattle.paths.specs.BusAddresses.{bus_address_of}
use Rattle.findings.{specs.WhyOnWay.{missing_by, unreached_at_bdf}, proofs.BridgesOnWay.number_is}
use Rattle.findings.proofs.number_why.why_number.Goals as goal

pub returns-clause-told : goal.returns-clause-told
returns-clause-told c =
    let at = bus_address_of c.args.at in
    let reached = c.path_reached-reached.result in
    number_is c.args.host.now.state.functions at reached _ _ _ c.path_reached-reached.ensures.path c.in_ok-way.ensures.bridges
    (c.missing_unless_reached-missing.ensures ∙ ap (λ e. missing_by reached e at) c.in_ok-way.ensures.end)
    (c.in_ok-not_found.ensures ∙ ap (λ h. unreached_at_bdf h.state.functions at reached (routing h.state.functions)) c.path_reached-reached.ensures.after)
