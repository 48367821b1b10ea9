-- The registers of a whole board at one moment.
--     BoardFunction      a function with its cells
--     State      each function with its cells, in path order, and CONFIG_ADDRESS
--     with_file g p fs      the functions, with the cells of the one at a path changed by g
--     row_at f      a function's row of the board
--     state_of      the functions of a board with these cells, and CONFIG_ADDRESS 0
use Rattle.std.specs.Prelude.{List, ℕ, if◌then◌else◌, map}
use Rattle.model_registers.specs.Registers.{File}
use Rattle.model_board.specs.{Paths.{Path, path_eq}, Board.{Decl, Row, Board}}

pub record BoardFunction : Type 0 where
  pub path : Path
  pub decl : Decl
  pub file : File

pub record State : Type 0 where
  pub functions : List BoardFunction
  pub latch : ℕ

-- all other functions stay the same
abbrev pub with_file : (File → File) → Path → List BoardFunction → List BoardFunction
with_file g p fs = map (λ (f : BoardFunction). if path_eq f.path p then record f { file = g f.file } else f) fs

abbrev pub row_at : BoardFunction → Row
row_at f = record { path = f.path; decl = f.decl }

-- CONFIG_ADDRESS is 0, and each function has its cells
abbrev pub state_of : Board → (Path → Decl → File) → State
state_of b file =
    record { functions = map (λ r. record { path = r.path; decl = r.decl; file = file r.path r.decl }) b; latch = 0 }
