-- A whole board at reset.
--     reset_file      the cells of a function at reset
--     reset_state      the state of a whole board at reset
--     board_at      the board whose functions have these cells
--     IsAtReset      a lawful board with all cells at reset and CONFIG_ADDRESS 0
use Rattle.std.specs.Prelude.{List, ◌≡◌, map}
use Rattle.model_registers.specs.{Registers.File, EndpointTable.endpoint_reset, BridgeTable.bridge_reset}
use Rattle.model_board.specs.{Paths.Path, Board.{Decl, endpoint, bridge, Board, has_multifunction_bit, IsBoard}, State.{BoardFunction, State, row_at, state_of}, Lawful.HasLawfulDecls}

abbrev pub reset_file : Board → Path → Decl → File
reset_file b p (endpoint d) = endpoint_reset d (has_multifunction_bit b p)
reset_file b p (bridge d) = bridge_reset d (has_multifunction_bit b p)

abbrev pub reset_state : Board → State
reset_state b = state_of b (reset_file b)

abbrev pub board_at : List BoardFunction → Board
board_at fs = map row_at fs

pub record IsAtReset (s : State) : Type 0 where
  pub board : IsBoard (board_at s.functions)
  pub declarations : HasLawfulDecls (board_at s.functions)
  pub registers : s ≡ reset_state (board_at s.functions)
