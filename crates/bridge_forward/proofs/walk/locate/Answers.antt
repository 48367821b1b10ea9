use Rattle.std.{proofs.Common.{◌≡◌, Some, arith, sym, ap, ◌∙◌}, specs.Prelude.option_map}
use Rattle.model_registers.specs.Decoding.{Hit}
use Rattle.model_board.specs.{State.BoardFunction, Claims.{claim_at, endpoint_hit}}
use Rattle.bars.specs.Kinds.{named_space}
use Rattle.bridge_forward.{specs.Layout.function_of, proofs.{Nodes.inside, Changes.nth_is, Claiming.{passed_into, passed_over, claim_here, claim_nowhere, hit_of_endpoint, endpoint_forwards_nothing, bridge_claims_nothing, bridge_forwards}}}
use Rattle.lists.proofs.Indices.{read_at, map_at}
use Rattle.bridge_forward.proofs.walk.locate.Goals as goal

pub returns-in-Some-clause-claim : goal.returns-in-Some-clause-claim
returns-in-Some-clause-claim c =
    let nodes = c.args.nodes.now in
    let n = c.index-nodes-i.result in
    let space = named_space c.args.space in
    let h : Hit = record { index = c.in-Some.region; offset = c.in-Some.offset } in
    let e = read_at nodes c.loop-i.i n c.loop-i-test.true c.index-nodes-i.is in
    let hit : endpoint_hit (function_of n) space c.args.addr ≡ Some h =
    hit_of_endpoint nodes c.requires.laid space c.args.addr n c.in-Endpoint.endpoint c.in-Endpoint.is ∙ sym c.in-Some.ensures in
    ap (option_map (λ (f : BoardFunction). claim_at f.path h)) (map_at function_of nodes c.loop-i.i n e)
    ∙ sym (claim_here nodes c.requires.laid space c.args.addr c.loop-i.i n h (c.loop-i.invariant c.requires.laid) e hit)

pub returns-in-Some-clause-there : goal.returns-in-Some-clause-there
returns-in-Some-clause-there c = grind (arith, read_at, nth_is)

pub loop-i-smaller-in_default : goal.loop-i-smaller-in_default
loop-i-smaller-in_default c = grind (arith, read_at, inside)

pub loop-i-preserved-in_default : goal.loop-i-preserved-in_default
loop-i-preserved-in_default c = λ laid. grind (arith, read_at, passed_over, hit_of_endpoint, endpoint_forwards_nothing, c.loop-i.invariant laid)

pub loop-i-preserved-then-forwards : goal.loop-i-preserved-then-forwards
loop-i-preserved-then-forwards c = λ laid. grind (arith, read_at, passed_into, bridge_claims_nothing, bridge_forwards, c.loop-i.invariant laid)

pub loop-i-smaller : goal.loop-i-smaller
loop-i-smaller c = grind (arith, read_at, inside)

pub loop-i-preserved : goal.loop-i-preserved
loop-i-preserved c = λ laid. grind (arith, read_at, passed_over, bridge_claims_nothing, bridge_forwards, c.loop-i.invariant laid)

pub returns-clause-claim : goal.returns-clause-claim
returns-clause-claim c = grind (arith, claim_nowhere, c.loop-i.invariant c.requires.laid)
