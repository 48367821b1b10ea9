-- The node at which a search for a bridge continues: it skips endpoints that have nothing behind them.
--     is_passed n i      the node at index i is such an endpoint
--     first_bridge_from n i next      the next bridge from index i on, given `next`, the first bridge after index i
--     AreSkipped nodes i b      the nodes from index i up to b are all such endpoints
--     IsTree      a list in layout order in which each node stores the index of the next bridge
use Rattle.std.specs.Prelude.{List, ◌≡◌, ℕ, ◌+◌, ◌≤◌, ◌<◌, Bool, false, not, ◌&&◌, ◌==◌, if◌then◌else◌, Some, slice_get}
use Rattle.model_board.specs.Board.{is_bridge}
use Rattle.bridge_forward.specs.{declared.bus.Node.Node, Functions.decl_of, Layout.IsLaidOut}

abbrev pub is_passed : Node → ℕ → Bool
is_passed n i = not (is_bridge (decl_of n.function)) && (n.end == i + 1)

abbrev pub first_bridge_from : Node → ℕ → ℕ → ℕ
first_bridge_from n i next = if is_passed n i then next else i

pub record AreSkipped (nodes : List Node) (i b : ℕ) : Type 0 where
  pub ahead : i ≤ b
  pub leaves : (j : ℕ) (n : Node) → i ≤ j → j < b → slice_get nodes j ≡ Some n
      → (n.end ≡ j + 1) × (is_bridge (decl_of n.function) ≡ false)

abbrev pub HasSkips : List Node → Type 0
HasSkips nodes = (i : ℕ) (n : Node) → slice_get nodes i ≡ Some n → AreSkipped nodes i n.bridge

pub record IsTree (nodes : List Node) : Type 0 where
  pub laid : IsLaidOut nodes
  pub skips : HasSkips nodes
