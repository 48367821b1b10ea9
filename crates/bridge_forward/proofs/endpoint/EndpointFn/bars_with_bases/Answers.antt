use Rattle.std.{proofs.Common.{ap, ◌∙◌}, specs.Prelude.map}
use Rattle.model_registers.specs.Decoding.{Function, base_address}
use Rattle.bars.specs.Slots.{bases_from}
use Rattle.bridge_forward.proofs.EndpointHits.{regions_now}
use Rattle.bridge_forward.proofs.endpoint.EndpointFn.bars_with_bases.Goals as goal

pub returns : goal.returns
returns c =
    ap (bases_from 0) c.copy_regions.ensures
    ∙ c.regions.ensures.bases ∙ regions_now _ _ _ _ c.self.invariant.parts c.self.inside.command c.regions.ensures.lawful
    ∙ ap (λ (f : Function). map (base_address f.file) f.decl.regions) c.self.view_is
