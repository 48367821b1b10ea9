-- A board's functions at reset.
--     reset_function, reset_functions      the functions of a board at reset
use Rattle.std.specs.Prelude.{List, map}
use Rattle.model_board.specs.{Board.{Row, Board, has_multifunction_bit}, State.BoardFunction}
use Rattle.bridge_forward.specs.Functions.{reset_cells}

abbrev pub reset_function : Board → Row → BoardFunction
reset_function b r = record { path = r.path; decl = r.decl; file = reset_cells r.decl (has_multifunction_bit b r.path) }

abbrev pub reset_functions : Board → List BoardFunction
reset_functions b = map (reset_function b) b
