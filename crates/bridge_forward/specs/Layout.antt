-- A tree stored as one list in path order.
--     function_of, functions_of      nodes as functions of the board
--     AreInOrder      path order, each path on bus 0 or behind another
--     EndsAt      the end of the subtree behind a path
--     IsLaidOut      nodes in order, each with the end of its subtree
use Rattle.std.specs.{Prelude.{List, [], ◌≡◌, ◌⊎◌, ℕ, ◌<◌, ◌≤◌, ◌&&◌, nat_lt, Some, map, length, slice_get, IsTrue}, List.list_any}
use Rattle.lists.specs.Elements.{Each, EachPair}
use Rattle.model_board.specs.{Paths.{Path, path_eq, path_before, is_ancestor_of, parent, IsPath}, State.BoardFunction}
use Rattle.bridge_forward.specs.{declared.bus.Node.Node, Functions.{decl_of, file_of}}

abbrev pub function_of : Node → BoardFunction
function_of n = record { path = n.path; decl = decl_of n.function; file = file_of n.function }

abbrev pub functions_of : List Node → List BoardFunction
functions_of nodes = map function_of nodes

abbrev pub paths_of : List Node → List Path
paths_of nodes = map (λ n. n.path) nodes

abbrev pub ends_of : List Node → List ℕ
ends_of nodes = map (λ n. n.end) nodes

-- path order, each path on bus 0 or behind another
pub record AreInOrder (ps : List Path) : Type 0 where
  pub paths : Each IsPath ps
  pub in_order : EachPair (λ p q. IsTrue (path_before p q)) ps
  pub founded : Each (λ p. (parent p ≡ []) ⊎ IsTrue (list_any (λ q. path_eq q (parent p)) ps)) ps

-- the nodes behind the path at index i are exactly those after i and before `end`
pub record EndsAt (ps : List Path) (i end : ℕ) : Type 0 where
  pub after : i < end
  pub within : end ≤ length ps
  pub leads : (j : ℕ) (p q : Path) → slice_get ps i ≡ Some p → slice_get ps j ≡ Some q
      → is_ancestor_of p q ≡ (nat_lt i j && nat_lt j end)

pub record AreLaid (ps : List Path) (ends : List ℕ) : Type 0 where
  pub order : AreInOrder ps
  pub ends_at : (i end : ℕ) → slice_get ends i ≡ Some end → EndsAt ps i end

abbrev pub IsLaidOut : List Node → Type 0
IsLaidOut nodes = AreLaid (paths_of nodes) (ends_of nodes)
