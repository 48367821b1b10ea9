use Rattle.std.{proofs.Common.{◌≡◌, Some, arith}, specs.{Prelude.find, List.slice_get}}
use Rattle.model_board.specs.Paths.{path_eq}
use Rattle.bridge_forward.proofs.{Changes.{endpoint_back, found_there, node_there, none_back}, KnownRoutes.bus_reset}
use Rattle.bridge_forward.proofs.bus.Bus.reset_except_routing.Goals as goal
use Rattle.bridge_forward.proofs.bus.Bus.reset_except_routing.Goals.{After-index_mut-node}

-- the function at the path, as it is read
there : (c : After-index_mut-node) → slice_get c.self.inside.nodes.items c.in-Some.at ≡ Some c.index_mut-node.result.now
there c = node_there _ _ c.in-Some.at _ (find (λ f. path_eq f.path c.args.path.now)) c.deref.ensures.value c.in-Some.ensures.found c.index_mut-node.ensures.value

pub invariant_of-self : goal.invariant_of-self
invariant_of-self c =
    let e = there (goal.at.invariant_of-self c).After-index_mut-node in
    bus_reset _ c.in-Some.at _ c.reset_except_routing.new.self c.self.inside.known e c.reset_except_routing.ensures c.self.invariant

pub returns-in_default : goal.returns-in_default
returns-in_default c = grind (arith, none_back)

pub returns : goal.returns
returns c = grind (arith, there, found_there, endpoint_back)
