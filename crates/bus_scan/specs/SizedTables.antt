-- The table of a board after sizing: PCI Local Bus 3.0, chapter 6.2.5.1.
--     IsTableOf b t      b is a lawful board that can be enumerated, and t describes everything that software finds of it
use Rattle.std.specs.Prelude.{List, ◌≡◌}
use Rattle.model_board.specs.{Board.{Board, IsBoard}, BusNumbers.Enumerates, Lawful.HasLawfulDecls}
use Rattle.model_set_up.specs.FunctionTable.{TableRow, sized_table}

pub record IsTableOf (b : Board) (t : List TableRow) : Type 0 where
  pub board : IsBoard b
  pub declarations : HasLawfulDecls b
  pub few : Enumerates b
  pub sized : t ≡ sized_table b
