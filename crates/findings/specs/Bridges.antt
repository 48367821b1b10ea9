-- Bridges among rows, and functions that their own BDFs don't reach: PCI-to-PCI Bridge Architecture 1.2, chapter 3.
--     is_bridge_row bus r      the row is that of the bridge above the bus
--     is_there p o      the path that was reached is p
--     lost_function fs p      the problem of the function at a path, if it has one
use Rattle.std.specs.{Prelude.{List, [], ◌∷◌, Bool, true, false, ◌&&◌, if◌then◌else◌, Option}, Option.option_map_or}
use Rattle.model_board.specs.{Paths.{Path, path_eq}, State.BoardFunction, Routing.{Ranges, regions, windows, RoutingRow}}
use Rattle.model_findings.specs.{Found.{current_bdf, path_reached}, Problems.{Problem, not_found}}

abbrev pub is_windows : Ranges → Bool
is_windows (regions bs) = false
is_windows (windows wio wmem wpref) = true

abbrev pub is_bridge_row : Path → RoutingRow → Bool
is_bridge_row bus r = is_windows r.ranges && path_eq r.path bus

abbrev pub is_there : Path → Option Path → Bool
is_there p o = option_map_or (λ q. path_eq q p) o false

abbrev pub lost_function : List BoardFunction → Path → List Problem
lost_function fs p =
    if is_there p (path_reached fs p) then [] else not_found p (current_bdf fs p) (path_reached fs p) ∷ []
