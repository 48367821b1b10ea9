use Rattle.std.proofs.Common.{◌≡◌, sym, ap, ◌∙◌, subst, arith}
use Rattle.model_board.{specs.{AtReset.board_at, Board.IsBoard, Places.board_of}, proofs.StateRows.state_rows}
use Rattle.bridge_forward.proofs.BoardOrder.{board_again}
use Rattle.bridge_forward.proofs.bus.Bus.rebuild_at_reset.Goals as goal
use Rattle.bridge_forward.proofs.bus.Bus.rebuild_at_reset.Goals.{In_ok-decls}

-- what is declared is the board
again : (c : In_ok-decls) → board_of c.in_ok-decls.decls.items ≡ board_at c.args.self.now
again c = board_again ((rw c.deref.ensures.value at c.in_ok-decls.ensures) ∙ ap board_at c.self.view_is) c.requires

pub build-requires : goal.build-requires
build-requires c = subst IsBoard (sym (again c)) c.requires

pub returns-clause-board : goal.returns-clause-board
returns-clause-board c = grind (arith, state_rows, again)
