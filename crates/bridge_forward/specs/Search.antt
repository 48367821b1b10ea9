-- The results of searches in a tree.
--     is_named bus d n      a function has device d and function n on a bus; [] means bus 0
--     IsSide      a range of nodes is everything behind a bridge, or the whole tree
--     IsAt      the function at an index
use Rattle.std.specs.Prelude.{List, [], ◌∷◌, ◌++◌, ◌≡◌, ℕ, ◌≤◌, Bool, ◌&&◌, nat_lt, nat_le, Option, Some, length, slice_get}
use Rattle.model_board.specs.{Paths.{Path, path_eq, is_ancestor_of}, State.BoardFunction}
use Rattle.bridge_forward.specs.{declared.bus.Node.Node, Layout.function_of}

abbrev pub is_named : Path → ℕ → ℕ → BoardFunction → Bool
is_named bus device function f = path_eq f.path (bus ++ record { device = device; function = function } ∷ [])

-- the nodes from one index up to another are everything behind the bridge at `bus`; [] means bus 0
pub record IsSide (nodes : List Node) (bus : Path) (from to : ℕ) : Type 0 where
  pub within : to ≤ length nodes
  pub behind : (j : ℕ) (n : Node) → slice_get nodes j ≡ Some n → is_ancestor_of bus n.path ≡ (nat_le from j && nat_lt j to)

-- the result of a search is the function of the node at this index
pub record IsAt (nodes : List Node) (i : ℕ) (answer : Option BoardFunction) : Type 0 where
  pub node : Node
  pub there : slice_get nodes i ≡ Some node
  pub found : answer ≡ Some (function_of node)
