-- Selecting regions, in the code's types: enabled regions, disabled regions, or enabled memory regions that aren't
-- prefetchable.
--     is_bar_selected sort command b      a region is of the sort, by the word of Command
--     regions_among sort p command bs      those of some regions of the function at p that are
--     regions_of sort r, all_selected_bars sort rows      those of a row, and of all rows
use Rattle.std.specs.Prelude.{List, [], ℕ, Bool, ◌&&◌, not, map, filter, flat_map}
use Rattle.model_registers.specs.{EndpointTable.BaseAddress, Decoding.{space_of, opens_space}}
use Rattle.model_board.specs.{Paths.Path, Routing.{RoutingRow, regions, windows}}
use Rattle.model_set_up.specs.PlacedRegions.{PlacedRegion}
use Rattle.model_findings.specs.{OpenRegions.region_now, ReadinessIssues.is_non_prefetchable_memory}
use Rattle.findings.specs.declared.regions.Sort.{Sort, TheVariants.{Open, Closed, Plain}}

abbrev pub is_bar_selected : Sort → ℕ → BaseAddress → Bool
is_bar_selected Open command b = opens_space command (space_of b.kind)
is_bar_selected Closed command b = not (opens_space command (space_of b.kind))
is_bar_selected Plain command b = is_non_prefetchable_memory b.kind && opens_space command (space_of b.kind)

abbrev pub regions_among : Sort → Path → ℕ → List BaseAddress → List PlacedRegion
regions_among sort p command bs = map (region_now p) (filter (is_bar_selected sort command) bs)

abbrev pub regions_of : Sort → RoutingRow → List PlacedRegion
regions_of sort r = elim r.ranges [ regions bs ↦ regions_among sort r.path r.command bs | windows wio wmem wpref ↦ [] ]

abbrev pub all_selected_bars : Sort → List RoutingRow → List PlacedRegion
all_selected_bars sort rows = flat_map (regions_of sort) rows
