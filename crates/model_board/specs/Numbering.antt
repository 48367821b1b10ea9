-- The numbers of two bridges show how their paths relate: the bus numbers behind a bridge are those of the bridges below
-- it. PCI-to-PCI Bridge Architecture 1.2, chapter 3.2.5.
--     NumbersLead b r q      how the numbers of two bridges relate, given their paths
--     Numbering      this relation holds for all bridges of a board
use Rattle.std.specs.Prelude.{◌<◌, ◌≤◌, IsTrue, IsFalse}
use Rattle.model_board.specs.{Paths.{Path, path_before, is_ancestor_of}, Board.{Board, is_bridge_at, IsBoard}, BusNumbers.{secondary, subordinate}}

pub record NumbersLead (b : Board) (r q : Path) : Type 0 where
  pub inside : IsTrue (is_ancestor_of r q) → (secondary b r < secondary b q) × (secondary b q ≤ subordinate b r)
  pub earlier : IsTrue (path_before q r) → secondary b q < secondary b r
  pub later : IsTrue (path_before r q) → IsFalse (is_ancestor_of r q) → subordinate b r < secondary b q

abbrev pub Numbering : Type 0
Numbering = (b : Board) → IsBoard b → (r q : Path) → IsTrue (is_bridge_at b r) → IsTrue (is_bridge_at b q)
    → NumbersLead b r q
