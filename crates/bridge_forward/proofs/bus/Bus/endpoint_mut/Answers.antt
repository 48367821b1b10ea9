use Rattle.std.{proofs.{Common.{refl, ◌≡◌, false, Some, get_or, ap, arith, ◌∙◌, sym}, lemmas.Option.slice_get_within}, specs.{Prelude.find, List.slice_get}}
use Rattle.model_board.specs.{Paths.path_eq, Board.is_bridge}
use Rattle.bridge_forward.{specs.{declared.{bus.Node.Node, function.Function.TheVariants.Endpoint}, Layout.{function_of, functions_of}, Lending.endpoint_at, Functions.{decl_of, endpoint_in}}, proofs.{Nodes.functions_in_order, Changes.{endpoint_set, endpoint_there, found_there, kept, node_there, same_read, same_order}, KnownRoutes.{bus_same, bus_set, none_lent, same_read_at}}}
use Rattle.bridge_forward.proofs.bus.Bus.endpoint_mut.Goals as goal
use Rattle.bridge_forward.proofs.bus.Bus.endpoint_mut.Goals.{After-is_bridge}

pub returns-in_err-at : goal.returns-in_err-at
returns-in_err-at c = grind (arith, same_order, functions_in_order)

pub index_mut-node-requires : goal.index_mut-node-requires
index_mut-node-requires c = grind (arith, slice_get_within)

-- the function at the path, as it is read
module _ (c : After-is_bridge) {n : Node} (is : n ≡ get_or c.self.inside.nodes.items c.in_ok-at.at n) where
  there : slice_get c.self.inside.nodes.items c.in_ok-at.at ≡ Some n
  there = node_there _ _ c.in_ok-at.at n (find (λ f. path_eq f.path c.args.path.now)) c.deref.ensures.value c.in_ok-at.ensures.found is

  found : find (λ f. path_eq f.path c.args.path.now) (functions_of c.self.inside.nodes.items) ≡ Some (function_of n)
  found = found_there _ _ c.in_ok-at.at n (find (λ f. path_eq f.path c.args.path.now)) c.deref.ensures.value c.in_ok-at.ensures.found there

  value : endpoint_in n.function ≡ endpoint_at c.args.self.now c.args.path.now
  value = endpoint_there _ c.self.invariant.tree.laid c.in_ok-at.at n there _ found ∙ ap (λ fs. endpoint_at fs c.args.path.now) c.self.view_is

pub invariant_of-self-lent : goal.invariant_of-self-lent
invariant_of-self-lent c =
    let n = c.index_mut-node.result.now in
    let e = there (goal.at.invariant_of-self-lent c).After-is_bridge c.index_mut-node.ensures.value in
    let leaf : is_bridge (decl_of n.function) ≡ false =
    ap (λ (m : Node). is_bridge (decl_of m.function)) (same_read_at c.self.inside.nodes.items c.in_ok-at.at n c.index.result.now e c.index.ensures)
    ∙ sym c.is_bridge.ensures ∙ c.if-is_bridge.false in
    λ _. (λ w. bus_set _ c.in_ok-at.at n (Endpoint w) e leaf refl c.self.inside.known c.self.invariant, bus_same _ c.in_ok-at.at n c.self.inside.known e c.self.invariant)

pub returns : goal.returns
returns c = grind (arith, value, same_read, endpoint_set, there, found, kept, same_order, functions_in_order)

pub returns-then-is_bridge : goal.returns-then-is_bridge
returns-then-is_bridge c = grind (arith, value, none_lent, same_order, functions_in_order)
