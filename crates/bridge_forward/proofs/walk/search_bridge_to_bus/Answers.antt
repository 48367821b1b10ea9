use Rattle.std.proofs.Common.{arith, sym, ◌∙◌}
use Rattle.lists.proofs.{Tests.right_true, Indices.read_at}
use Rattle.bridge_forward.proofs.{Nodes.{side_root, side_behind}, Reaching.passing_root, Reached.{no_taker, next, leads_elsewhere, leads_here}}
use Rattle.bridge_forward.proofs.walk.search_bridge_to_bus.Goals as goal

pub loop-at-init : goal.loop-at-init
loop-at-init c = grind (arith, side_root, passing_root)

pub returns-in_err-at-clause-none : goal.returns-in_err-at-clause-none
returns-in_err-at-clause-none c =
    let v = c.loop-at.invariant in
    no_taker c.args.nodes.now c.requires.laid c.args.bus v.above (v.passing c.requires.laid) c.from_residual.result (c.in_err-at.ensures.none v.above v.side)

pub returns-then-has_secondary_bus-clause-found : goal.returns-then-has_secondary_bus-clause-found
returns-then-has_secondary_bus-clause-found c =
    let nodes = c.args.nodes.now in
    let v = c.loop-at.invariant in
    let e = read_at nodes c.in_ok-at.at c.index-nodes-at.result (omega (arith, c.in_ok-at.ensures.within, v.side.within)) c.index-nodes-at.is in
    leads_here nodes c.requires.laid c.args.bus v.above (v.passing c.requires.laid) c.in_ok-at.at c.index-nodes-at.result (c.in_ok-at.ensures.found v.above v.side) e
    (right_true _ _ (sym c.has_secondary_bus.ensures ∙ c.if-has_secondary_bus.true))

pub loop-at-preserved : goal.loop-at-preserved
loop-at-preserved c =
    let nodes = c.args.nodes.now in
    let v = c.loop-at.invariant in
    let e = read_at nodes c.in_ok-at.at c.index-nodes-at.result (omega (arith, c.in_ok-at.ensures.within, v.side.within)) c.index-nodes-at.is in
    let at = c.in_ok-at.ensures.found v.above v.side in
    record {
      above = c.index-nodes-at.result.path;
      side = side_behind nodes c.requires.laid c.in_ok-at.at c.index-nodes-at.result e;
      passing = λ laid.
          next nodes laid c.args.bus v.above (v.passing laid) c.in_ok-at.at c.index-nodes-at.result at e
          (leads_elsewhere nodes laid c.args.bus v.above (v.passing laid) c.in_ok-at.at c.index-nodes-at.result at e (sym c.has_secondary_bus.ensures ∙ c.if-has_secondary_bus.false));
    }
