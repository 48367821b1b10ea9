-- What a scan leaves is a numbered board, and what sizing finds is itself a board with the same table.
use Rattle.std.proofs.Common.{◌≡◌, List, sym, ap, ◌∙◌, subst, arith}
use Rattle.model_board.{specs.{Board.{Board, IsBoard}, BusNumbers.Enumerates, Lawful.HasLawfulDecls, State.State, AtReset.board_at}, proofs.StateRows.state_rows}
use Rattle.model_set_up.{specs.{Scanning.{board_numbers, numbered_file, numbered_state, IsNumbered, HasOwnNumbers}, FunctionTable.{TableRow, sized_table, board_in}}, proofs.FoundBoards.{found_few, scan_finds_all_placement_needs}}
use Rattle.host_bridge.specs.HostState.{HostState}
use Rattle.bus_scan.specs.SizedTables.{IsTableOf}

-- bus numbers change no board
pub same_board : (b : Board) (s : State) → HasOwnNumbers b s → board_at s.functions ≡ b
same_board b s (numbers, e) = ap (λ (t : State). board_at t.functions) e ∙ state_rows b (numbered_file b numbers)

pub numbered_board : (b : Board) (s : State) → IsBoard b → HasLawfulDecls b → Enumerates b → s ≡ numbered_state b → IsNumbered s
numbered_board b s board lawful few e = grind (arith, same_board b s (board_numbers b, e))

-- the table of a numbered board
pub table_of : (s : State) → IsNumbered s → (t : List TableRow) → t ≡ sized_table (board_at s.functions) → IsTableOf (board_at s.functions) t
table_of s h t e = record { board = h.board; declarations = h.declarations; few = h.few; sized = e }

-- the host stays as it was
pub table_left : (h k : HostState) → k ≡ h → IsNumbered h.state → (t : List TableRow) → t ≡ sized_table (board_at h.state.functions) → IsTableOf (board_at k.state.functions) t
table_left h k same numbered t e = subst (λ (x : HostState). IsTableOf (board_at x.state.functions) t) (sym same) (table_of h.state numbered t e)

-- a table is that of the board that was found
pub table_of_found : (b : Board) (t : List TableRow) → IsTableOf b t → IsTableOf (board_in t) t
table_of_found b t h = grind (arith, scan_finds_all_placement_needs, found_few)
