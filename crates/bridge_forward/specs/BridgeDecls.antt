-- The declarations of a board's bridges.
--     declared_bridge      the declaration of a function, if it is a bridge
--     declared_bridge_nth      the declaration of the bridge at an index of the list
use Rattle.std.specs.{Prelude.{List, ℕ, Option, Some, None, slice_get}, Option.option_map_or}
use Rattle.model_registers.specs.Declarations.{Bridge}
use Rattle.model_board.specs.{Board.{Decl, endpoint, bridge}, State.BoardFunction}

abbrev pub declared_bridge : Decl → Option Bridge
declared_bridge (endpoint d) = None
declared_bridge (bridge d) = Some d

abbrev pub declared_bridge_nth : List BoardFunction → ℕ → Option Bridge
declared_bridge_nth fs i = option_map_or (λ (f : BoardFunction). declared_bridge f.decl) (slice_get fs i) None
