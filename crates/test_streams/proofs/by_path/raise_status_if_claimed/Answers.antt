use Rattle.std.{proofs.Common.{sym, ap, subst}, specs.Prelude.IsSome}
use Rattle.model_registers.specs.Decoding.{memory}
use Rattle.model_board.specs.{Paths.Path, Claims.Claim}
use Rattle.bridge_forward.specs.Lending.{endpoint_at}
use Rattle.host_bridge.proofs.Lent.{claimed_endpoint, distinct_paths}
use Rattle.test_streams.proofs.by_path.raise_status_if_claimed.Goals as goal

-- an endpoint stands at the path of a claim
pub raise-requires : goal.raise-requires
raise-requires c =
    let fs = c.args.host.now.state.functions in
    subst (λ (p : Path). IsSome (endpoint_at fs p)) (ap (λ (k : Claim). k.path) (sym c.claim.view_is))
    (claimed_endpoint fs memory c.args.addr c.in-Some.claim (distinct_paths fs c.routing.ensures.in_order) (sym c.in-Some.ensures))
