use Rattle.std.proofs.{Common.{refl, ◌≡◌, false, ap, arith, inr, ◌∙◌, sym}, lemmas.{List.length-map, Option.slice_get_past}}
use Rattle.bridge_forward.{specs.{Lending.endpoint_nth, declared.{bus.Node.Node, function.Function.TheVariants.Endpoint}, Functions.decl_of}, proofs.{Nodes.functions_in_order, Changes.{kept, same_read, same_order, nth_set, nth_there}, KnownRoutes.{bus_same, bus_set, none_lent, same_read_at}}}
use Rattle.lists.proofs.Indices.{read_at}
use Rattle.model_board.specs.Board.{is_bridge}
use Rattle.bridge_forward.proofs.bus.Bus.endpoint_nth.Goals as goal

pub returns-then-index-len : goal.returns-then-index-len
returns-then-index-len c = grind (arith, slice_get_past, length-map, same_order, functions_in_order)

pub invariant_of-self-lent : goal.invariant_of-self-lent
invariant_of-self-lent c =
    let nodes = c.self.inside.nodes.items in
    let n = c.index_mut-node.result.now in
    let e = read_at nodes c.args.index n (omega (arith, c.if-index-len.false, c.len.ensures)) c.index_mut-node.ensures.value in
    let leaf : is_bridge (decl_of n.function) ≡ false =
    ap (λ (m : Node). is_bridge (decl_of m.function)) (same_read_at nodes c.args.index n c.index.result.now e c.index.ensures) ∙ sym c.is_bridge.ensures ∙ c.if-is_bridge.false in
    λ _. (λ w. bus_set nodes c.args.index n (Endpoint w) e leaf refl c.self.inside.known c.self.invariant, bus_same nodes c.args.index n c.self.inside.known e c.self.invariant)

pub returns-then-is_bridge : goal.returns-then-is_bridge
returns-then-is_bridge c =
    let nodes = c.self.inside.nodes.items in
    let n = c.index.result.now in
    let i = c.args.index in
    let e = read_at nodes i n (omega (arith, c.if-index-len.false, c.len.ensures)) c.index.ensures in (
      ap (λ fs. inr fs) c.self.view_is,
      record {
        lends = tt;
        value = none_lent n.function (sym c.is_bridge.ensures ∙ c.if-is_bridge.true) ∙ nth_there nodes i n e ∙ ap (λ fs. endpoint_nth fs i) c.self.view_is;
        in_order = same_order c.self.view_is (functions_in_order nodes c.self.invariant.tree.laid);
      },
    )

pub returns : goal.returns
returns c = grind (arith, read_at, same_read, nth_set, kept, nth_there, same_order, functions_in_order)
