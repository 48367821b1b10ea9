-- The rows of a board's states are the board.
use Rattle.std.{proofs.Common.{◌≡◌, List, [], ◌∷◌, refl, ap, arith}, specs.Prelude.map}
use Rattle.model_registers.specs.Registers.{File}
use Rattle.model_board.specs.{Paths.Path, Board.{Decl, Row, Board, IsBoard}, State.{BoardFunction, row_at, state_of}, Lawful.HasLawfulDecls, AtReset.{reset_state, board_at, IsAtReset}}

pub rows_of : (file : Path → Decl → File) (rs : List Row) → map row_at (map (λ (r : Row). record { path = r.path; decl = r.decl; file = file r.path r.decl }) rs) ≡ rs
rows_of file [] = refl
rows_of file (r ∷ rs) = ap (λ (xs : List Row). r ∷ xs) (rows_of file rs)

pub state_rows : (b : Board) (file : Path → Decl → File) → board_at (state_of b file).functions ≡ b
state_rows b file = rows_of file b

-- a lawful board, its functions as reset leaves them
pub at_reset : (b : Board) → IsBoard b → HasLawfulDecls b → (fs : List BoardFunction) → fs ≡ (reset_state b).functions → IsAtReset (record { functions = fs; latch = 0 })
at_reset b board lawful fs e = grind (arith, state_rows)
