use Rattle.std.{proofs.Common.{◌≡◌, Some, List, sym, subst, arith}, specs.List.slice_get}
use Rattle.bridge_forward.{specs.{Cycled.reached_by, declared.bus.Node.Node, Layout.{function_of, functions_of}, Leading.AreRoutes}, proofs.{Changes.{laid_set, cells_set, found_there, node_there}, KnownRoutes.routes_cycled, Skipping.{cells_leaf, tree_set}}}
use Rattle.bridge_forward.proofs.bus.Bus.cycle.Goals as goal
use Rattle.bridge_forward.proofs.bus.Bus.cycle.Goals.{After-index_mut-node}

-- the function that the cycle reaches, as it is read
module _ (c : After-index_mut-node) where
  there : slice_get c.self.inside.nodes.items c.in_ok-at.at ≡ Some c.index_mut-node.result.now
  there = node_there _ _ c.in_ok-at.at _ (λ fs. reached_by fs c.args.cycle) c.deref.ensures.value c.in_ok-at.ensures.found c.index_mut-node.ensures.value

  reached : reached_by (functions_of c.self.inside.nodes.items) c.args.cycle ≡ Some (function_of c.index_mut-node.result.now)
  reached = found_there _ _ c.in_ok-at.at _ (λ fs. reached_by fs c.args.cycle) c.deref.ensures.value c.in_ok-at.ensures.found there

pub invariant_of-self : goal.invariant_of-self
invariant_of-self c = grind arith

pub invariant_of-self-2 : goal.invariant_of-self-2
invariant_of-self-2 c =
    let nodes = c.self.inside.nodes.items in
    let n = c.index_mut-node.result.now in
    let e = there (goal.at.invariant_of-self-2 c).After-index_mut-node in
    let g = c.access-reply.new.self in
    let y = c.args.cycle in
    let routes = subst (λ (ms : List Node). AreRoutes ms c.find_reached_function.new.known) c.deref.ensures.value c.in_ok-at.ensures.routes in
    record {
      tree = tree_set nodes c.in_ok-at.at n g e (cells_leaf n.function g _ c.access-reply.ensures.after) c.self.invariant.tree (laid_set nodes c.in_ok-at.at n g e c.self.invariant.tree.laid);
      routes = routes_cycled nodes c.in_ok-at.at n y.op y.offset y.enables g c.find_reached_function.new.known c.invalidate_all_if.new.self 256 c.is_write_to_bridge-changes_routes.result e
          c.access-reply.ensures.after (sym c.is_write_to_bridge-changes_routes.ensures) c.invalidate_all_if.ensures routes;
    }

pub returns-clause-reply : goal.returns-clause-reply
returns-clause-reply c = grind (arith, reached (goal.at.returns-clause-reply c).After-index_mut-node)

pub returns-clause-after : goal.returns-clause-after
returns-clause-after c = grind (arith, cells_set, there, reached)
