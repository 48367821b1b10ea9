-- The position of an item among the placed items of a bus (this project's own order).
--     IsFirstFrom ss i n      the spot at index n is the first whose item isn't ordered before i
use Rattle.std.specs.Prelude.{List, ◌≡◌, ℕ, ◌<◌, ◌≤◌, Some, length, slice_get, IsTrue, IsFalse}
use Rattle.model_set_up.specs.Placement.{PlacementItem, PlacedItem, stands_before}

pub record IsFirstFrom (ss : List PlacedItem) (i : PlacementItem) (n : ℕ) : Type 0 where
  pub within : n ≤ length ss
  pub before : (k : ℕ) (s : PlacedItem) → k < n → slice_get ss k ≡ Some s → IsTrue (stands_before s.item i)
  pub later : (k : ℕ) (s : PlacedItem) → n ≤ k → slice_get ss k ≡ Some s → IsFalse (stands_before s.item i)
