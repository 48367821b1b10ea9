-- The bridges that a configuration cycle passes, and where it ends.
--     end_told      where the cycle ends, in the type of the definitions
--     is_taker, paths_taking      a bridge that takes a cycle on a bus; those among some functions
--     taken fs bus n      that bridge, and whether it is the last
--     missing_by      what is missing at the end, unless a path is reached
--     has_bdf_but_not_reached, unfound      a function, by its path, that has a number and isn't reached; those among some rows
use Rattle.std.specs.Prelude.{List, [], ℕ, Bool, ◌&&◌, ◌==◌, not, Option, Some, None, option_map, unwrap_or, map, filter}
use Rattle.model_board.specs.{Paths.{Path, path_eq, parent}, State.BoardFunction, Cycles.{secondary_register, covers, taker, BusAddress}, Routing.RoutingRow}
use Rattle.model_findings.specs.Found.{current_bdf}
use Rattle.findings.specs.{Bridges.is_there, WhyByRows.selected, declared.cycle_way.{WayEnd.{WayEnd, TheVariants.{OnBus, NoTaker}}, Taken.Taken}}
use Rattle.model_lines.specs.Ways as ways

-- no path names bus 0
abbrev pub end_told : WayEnd → ways.WayEnd
end_told (OnBus behind) = ways.on_bus (unwrap_or behind [])
end_told (NoTaker behind) = ways.no_taker (unwrap_or behind [])

abbrev pub is_taker : Path → ℕ → BoardFunction → Bool
is_taker bus n f = path_eq (parent f.path) bus && covers n f

abbrev pub paths_taking : Path → ℕ → List BoardFunction → List Path
paths_taking bus n gs = selected (is_taker bus n) (λ f. f.path) gs

abbrev pub taken : List BoardFunction → Path → ℕ → Option Taken
taken fs bus n =
    option_map (λ (f : BoardFunction). record { path = f.path; is_last = secondary_register f.file == n })
    (taker fs bus n)

abbrev pub missing_by : Option Path → ways.WayEnd → BusAddress → Option ways.Missing
missing_by None e at = Some (ways.missing_at e at)
missing_by (Some p) e at = None

abbrev pub has_bdf_but_not_reached : List BoardFunction → BusAddress → Option Path → Path → Bool
has_bdf_but_not_reached fs at reached p = ways.address_eq (current_bdf fs p) at && not (is_there p reached)

abbrev pub unreached_at_bdf : List BoardFunction → BusAddress → Option Path → List RoutingRow → List Path
unreached_at_bdf fs at reached rows =
    map (λ (r : RoutingRow). r.path) (filter (λ (r : RoutingRow). has_bdf_but_not_reached fs at reached r.path) rows)
