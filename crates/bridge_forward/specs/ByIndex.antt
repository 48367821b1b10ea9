-- The address ranges of the function at an index, in the terms of the formal model.
--     ranges_told      the regions of the six registers, or the windows of a bridge
--     programmed_ranges_nth fs i      the regions or windows of the function at an index of the list
use Rattle.std.specs.Prelude.{List, ℕ, Option, option_map, slice_get}
use Rattle.model_board.specs.{State.BoardFunction, Routing.{Ranges, regions, windows, ranges_of}}
use Rattle.bars.specs.Slots.{bases_from}
use Rattle.bridge_forward.specs.{RoutingRows.window_of, declared.by_index.ProgrammedRanges.{ProgrammedRanges, TheVariants.{Regions, Windows}}}

abbrev pub ranges_told : ProgrammedRanges → Ranges
ranges_told (Regions slots) = regions (bases_from 0 slots)
ranges_told (Windows wio wmem wpref) =
    windows (option_map window_of wio) (option_map window_of wmem) (option_map window_of wpref)

abbrev pub programmed_ranges_nth : List BoardFunction → ℕ → Option Ranges
programmed_ranges_nth fs i = option_map (λ (f : BoardFunction). ranges_of f.file f.decl) (slice_get fs i)
