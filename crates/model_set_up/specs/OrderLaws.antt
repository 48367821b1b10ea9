-- The order of the items on a bus is a sorted permutation, and the only one.
--     OrderIsSorted      in_order returns a sorted permutation
--     OneOrder      every way of sorting a bus's items gives this order
use Rattle.std.specs.{Prelude.{List, ◌≡◌}, List.Sorted.{IsPermutation, IsSortedBy}}
use Rattle.model_board.specs.{Paths.Path, Board.{Board, IsBoard}, Lawful.HasLawfulDecls}
use Rattle.model_set_up.specs.{Pools.Pool, Placement.{PlacementItem, stands_before, in_order, items_on}}
use Rattle.model_registers.specs.Apertures.{Apertures}

-- no item belongs before the one that it follows
abbrev pub IsInOrder : List PlacementItem → Type 0
IsInOrder is = IsSortedBy stands_before is

pub record IsOrderOf (is js : List PlacementItem) : Type 0 where
  pub same : IsPermutation is js
  pub sorted : IsInOrder js

abbrev pub OrderIsSorted : Type 0
OrderIsSorted = (is : List PlacementItem) → IsOrderOf is (in_order is)

abbrev pub OneOrder : Type 0
OneOrder = (b : Board) (a : Apertures) (pool : Pool) (bus : Path) → IsBoard b → HasLawfulDecls b → (js : List PlacementItem)
    → IsOrderOf (items_on b a pool bus) js → js ≡ in_order (items_on b a pool bus)
