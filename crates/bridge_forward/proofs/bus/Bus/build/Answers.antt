use Rattle.std.proofs.{Common.{◌≡◌, ◌++◌, take, drop, length, arith}, lemmas.Grind.common_steps}
use Rattle.model_board.{specs.{AtReset.reset_state, Places.board_of}, proofs.StateRows.at_reset}
use Rattle.bridge_forward.{specs.Layout.functions_of, proofs.{KnownRoutes.routes_unknown, BoardOrder.nodes_in_order}}
use Rattle.bridge_forward.proofs.bus.Bus.build.Goals as goal

pub link_into_tree-requires : goal.link_into_tree-requires
link_into_tree-requires c = grind (arith, nodes_in_order)

pub returns-clause-at_reset : goal.returns-clause-at_reset
returns-clause-at_reset c =
    let nodes = take c.in_ok-nodes.nodes.len (c.link_into_tree.new.nodes ++ drop (length c.link_into_tree.new.nodes) c.in_ok-nodes.nodes.items) in
    let same : functions_of nodes ≡ (reset_state (board_of c.args.decls.items)).functions = grind (arith, common_steps) in
    at_reset (board_of c.args.decls.items) c.requires c.in_ok-nodes.ensures.lawful (functions_of nodes) same

pub invariant_of-result : goal.invariant_of-result
invariant_of-result c = grind (arith, common_steps, routes_unknown)
