-- A board's functions in any order, as a board file declares them.
--     Standing      a path, and whether it has a bridge
--     IsFounded, AreLawfulPlaces      unique paths, each behind a bridge or on bus 0, and a function 0 in each device
--     board_of      the rows in path order
use Rattle.std.specs.{Prelude.{List, [], ◌∷◌, ◌≡◌, ◌⊎◌, Bool, ◌&&◌, if◌then◌else◌, map, IsTrue, IsFalse, ◌↔◌}, List.list_any}
use Rattle.lists.specs.Elements.{Each, EachPair}
use Rattle.model_board.specs.{Paths.{Path, path_eq, path_before, parent, function_zero, IsPath}, Board.{Row, Board, IsBoard, is_bridge}}

pub record Standing : Type 0 where
  pub path : Path
  pub is_bridge : Bool

abbrev pub standing : Row → Standing
standing r = record { path = r.path; is_bridge = is_bridge r.decl }

abbrev pub has_path : List Standing → Path → Bool
has_path ss p = list_any (λ s. path_eq s.path p) ss

abbrev pub has_bridge : List Standing → Path → Bool
has_bridge ss p = list_any (λ s. s.is_bridge && path_eq s.path p) ss

-- a lawful path, on bus 0 or behind a bridge, in a device with a function 0
pub record IsFounded (ss : List Standing) (s : Standing) : Type 0 where
  pub path : IsPath s.path
  pub behind_bridge : (parent s.path ≡ []) ⊎ IsTrue (has_bridge ss (parent s.path))
  pub function_zero : IsTrue (has_path ss (function_zero s.path))

pub record AreLawfulPlaces (ss : List Standing) : Type 0 where
  pub founded : Each (IsFounded ss) ss
  pub apart : EachPair (λ s t. IsFalse (path_eq t.path s.path)) ss

abbrev pub row_inserted : Row → Board → Board
row_inserted r [] = r ∷ []
row_inserted r (s ∷ ss) = if path_before s.path r.path then s ∷ row_inserted r ss else r ∷ s ∷ ss

abbrev pub board_of : List Row → Board
board_of [] = []
board_of (r ∷ rs) = row_inserted r (board_of rs)

-- the places are lawful if and only if the rows in path order form a board
abbrev pub LawfulPlacesAreBoards : Type 0
LawfulPlacesAreBoards = (rs : List Row) → AreLawfulPlaces (map standing rs) ↔ IsBoard (board_of rs)
