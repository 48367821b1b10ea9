use Rattle.std.proofs.Common.{◌<◌, ◌^◌, arith, ap, ◌∙◌}
use Rattle.model_registers.specs.Decoding.{Function, lone_claim}
use Rattle.bars.specs.Kinds.{named_space}
use Rattle.bridge_forward.proofs.EndpointHits.{hits_same}
use Rattle.bridge_forward.proofs.endpoint.EndpointFn.decode.Goals as goal

pub returns : goal.returns
returns c =
    let small : c.self.inside.command < 2 ^ 16 = omega arith in
    c.decode.ensures
    ∙ hits_same _ _ _ _ c.self.invariant.parts _ c.self.invariant.command_is small (named_space c.args.space) c.args.addr
    ∙ ap (λ (f : Function). lone_claim f (named_space c.args.space) c.args.addr) c.self.view_is
