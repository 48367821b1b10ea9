-- The addresses that agents answer, in the code's types.
--     extent_of, extents_of      a window, both ends included, and up to two of them
--     least_of      the lesser of two numbers that may be there
--     first_missed_address es q      the least address of a region that none of some extents holds
use Rattle.std.specs.{Prelude.{List, ◌∷◌, ◌++◌, ℕ, ◌+◌, ◌&&◌, not, min, Option, Some, None, map, filter}, List.list_any, Option.{option_map, option_to_list}}
use Rattle.model_set_up.specs.PlacedRegions.{PlacedRegion, holds}
use Rattle.model_findings.specs.{Agents.{Extent, extent_holds}, Problems.least}
use Rattle.bridge_forward.specs.declared.routing.Window.{Window}

abbrev pub extent_of : Window → Extent
extent_of w = record { first = w.first; end = w.last + 1 }

abbrev pub extents_of : Option Window → Option Window → List Extent
extents_of one other = option_to_list (option_map extent_of one) ++ option_to_list (option_map extent_of other)

abbrev pub least_of : Option ℕ → Option ℕ → Option ℕ
least_of None y = y
least_of (Some x) None = Some x
least_of (Some x) (Some y) = Some (min x y)

-- addresses that none holds begin at the region's first byte, or where an extent ends
abbrev pub first_missed_address : List Extent → PlacedRegion → Option ℕ
first_missed_address es q =
    least (filter (λ n. holds q.space n q && not (list_any (extent_holds n) es)) (q.first ∷ map (λ e. e.end) es))
