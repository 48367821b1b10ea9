use Rattle.std.{proofs.Common.{◌≡◌, List, ap, subst, ◌∙◌}, specs.Prelude.{IfOk, map}}
use Rattle.model_registers.specs.{EndpointTable.BaseAddress, Decoding.{Function, base_address}}
use Rattle.bridge_forward.{specs.RoutingRows.base_of, proofs.EndpointHits.regions_now}
use Rattle.bridge_forward.proofs.endpoint.EndpointFn.regions.Goals as goal

pub returns : goal.returns
returns c =
    subst (λ (bs : List BaseAddress). IfOk c.collect_regions.result (λ v. map base_of v.items ≡ bs))
    (c.regions.ensures.bases ∙ regions_now _ _ _ _ c.self.invariant.parts c.self.inside.command c.regions.ensures.lawful
    ∙ ap (λ (f : Function). map (base_address f.file) f.decl.regions) c.self.view_is) c.collect_regions.ensures
