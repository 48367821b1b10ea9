use Rattle.std.proofs.Common.{◌≡◌, map}
use Rattle.lists.specs.Elements.{Each}
use Rattle.model_board.specs.{Board.has_multifunction_bit, Lawful.IsLawfulDecl, Places.board_of}
use Rattle.bridge_forward.specs.{Layout.functions_of, Resets.reset_function}
use Rattle.bridge_forward.proofs.build.nodes_at_reset.Given as goal

abbrev pub invariant-loop-decl : goal.invariant-loop-decl
invariant-loop-decl l = record {
  flags : l.multifunction.items ≡ map (λ r. has_multifunction_bit (board_of l.fn.decls.items) r.path) (board_of l.fn.decls.items);
  lawful : Each (λ r. IsLawfulDecl r.decl) l.yielded;
  made : functions_of l.nodes.items ≡ map (reset_function (board_of l.fn.decls.items)) l.yielded;
}
