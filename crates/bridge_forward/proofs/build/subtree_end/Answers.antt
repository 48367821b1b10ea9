use Rattle.std.{proofs.{Common.{◌≡◌, Some, arith, sym, ◌∙◌, get_or}, lemmas.{List.length-map, Option.slice_get-get_or}}, specs.List.slice_get}
use Rattle.bridge_forward.{specs.{declared.bus.Node.Node, Layout.paths_of}, proofs.Extents.{behind_more, stops, stops_past}}
use Rattle.lists.proofs.Indices.{map_at}
use Rattle.bridge_forward.proofs.build.subtree_end.Goals as goal
use Rattle.bridge_forward.proofs.build.subtree_end.Goals.{After-is_ancestor_of}

-- the paths that are compared
first_at : (c : After-is_ancestor_of) → slice_get (paths_of c.args.nodes.now) c.args.i ≡ Some (get_or c.args.nodes.now c.args.i c.index-nodes-i.result).path
first_at c = map_at (λ (n : Node). n.path) _ c.args.i _ (slice_get-get_or c.args.nodes.now c.args.i c.index-nodes-i.result c.requires.there)

last_at : (c : After-is_ancestor_of) → slice_get (paths_of c.args.nodes.now) c.loop-end.end ≡ Some (get_or c.args.nodes.now c.loop-end.end c.index-nodes-end.result).path
last_at c = map_at (λ (n : Node). n.path) _ c.loop-end.end _ (slice_get-get_or c.args.nodes.now c.loop-end.end c.index-nodes-end.result c.loop-end-test.true)

pub loop-end-preserved : goal.loop-end-preserved
loop-end-preserved c =
    let k = (goal.at.loop-end-preserved c).After-is_ancestor_of in
    behind_more _ c.requires.order c.args.i c.loop-end.end _ _ c.loop-end.invariant (first_at k) (last_at k) (sym c.is_ancestor_of.ensures ∙ c.if-is_ancestor_of.true)

pub returns-else-is_ancestor_of : goal.returns-else-is_ancestor_of
returns-else-is_ancestor_of c =
    let k = (goal.at.returns-else-is_ancestor_of c).After-is_ancestor_of in
    stops _ c.requires.order c.args.i c.loop-end.end _ _ c.loop-end.invariant (first_at k) (last_at k) (sym c.is_ancestor_of.ensures ∙ c.if-is_ancestor_of.false)

pub returns-after-loop-end : goal.returns-after-loop-end
returns-after-loop-end c =
    stops_past (paths_of c.args.nodes.now) c.requires.order c.args.i c.loop-end.end c.loop-end.invariant (omega (arith, c.loop-end-test.false, length-map c.args.nodes.now (λ (n : Node). n.path)))
