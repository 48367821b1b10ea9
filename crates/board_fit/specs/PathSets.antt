-- Lookups of functions and slots by sets of paths.
--     bridge_path_unless_bus_0 bus, parent_bridge p      the path of the bridge behind which a bus is, and of that behind which a function
--         is; none is where that is bus 0
--     valid_slot_paths gs      the paths of the guests' slots
--     remarks_on_bridges_not_in, remarks_on_endpoints_not_in      those whose paths are not in a set
use Rattle.std.specs.{Prelude.{◌&&◌, not, List, [], ◌∷◌, Option, Some, None, map, filter, flat_map}, List.enumerate_from, BTreeSet.{BTreeSet, contains}}
use Rattle.model_board.specs.Paths.{Path, parent}
use Rattle.paths.specs.PathOrders.{path_cmp}
use Rattle.board_file.specs.{Entries.{Bridge, Guest}, Endpoints.Endpoint, PathTexts.{path_at, is_path_text}}
use Rattle.board_fit.specs.{declared.remark.Remark.Remark, Warnings.{with_index, bridge_path}}
use Rattle.board_fit.specs.declared.remark.Remark.TheVariants as remark

abbrev pub bridge_path_unless_bus_0 : Path → Option Path
bridge_path_unless_bus_0 [] = None
bridge_path_unless_bus_0 (p ∷ ps) = Some (p ∷ ps)

abbrev pub parent_bridge : Path → Option Path
parent_bridge p = bridge_path_unless_bus_0 (parent p)

abbrev pub valid_slot_paths : List Guest → List Path
valid_slot_paths gs = map path_at (filter is_path_text (flat_map (λ g. g.slots) gs))

-- the bridges, and the endpoints, whose paths are in no set
abbrev pub remarks_on_bridges_not_in : BTreeSet Path → List Bridge → List Remark
remarks_on_bridges_not_in set bs =
    map (with_index remark.EmptyBridge)
    (filter (λ p. not (contains path_cmp set (bridge_path p.1))) (enumerate_from 0 bs))

abbrev pub remarks_on_endpoints_not_in : BTreeSet Path → List Endpoint → List Remark
remarks_on_endpoints_not_in set es =
    map (with_index remark.EndpointOfNone)
    (filter (λ p. not (is_path_text p.1.at && contains path_cmp set (path_at p.1.at))) (enumerate_from 0 es))
