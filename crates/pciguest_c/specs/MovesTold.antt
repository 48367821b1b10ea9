-- The regions of a guest that have moved since C last received them.
--     no_region_told      the description of a missing region
--     region_of_row_or_zeros w guest n      the region of a guest by its index; n counts six for each slot
--     is_same_region a b      two descriptions of regions are equal
--     region_change_row now before      the row of a region, and whether it moved
--     places_from w guest n ps      updated rows, of which the first is for region n
--     moved_count ps      how many of these moved
use Rattle.std.specs.Prelude.{ℕ, ◌+◌, ◌/◌, ◌%◌, ◌==◌, ◌&&◌, Bool, not, List, [], ◌∷◌, Result, Ok, Err, count_by}
use Rattle.model_guests.specs.WorldNow.{WorldNow}
use Rattle.model_handoff.specs.GuestRegions.{LiveBar}
use Rattle.pciguest_c.specs.{QueriesTold.{one_if, region_asked, region_told}, declared.{machine.regions.RegionTold.RegionTold, machine.moved_regions.PlaceRow.PlaceRow}}

abbrev pub no_region_told : RegionTold
no_region_told = record { first = 0; size = 0; space = 0; prefetchable = 0; is_open = 0 }

abbrev pub region_or_none : Result LiveBar ℕ → RegionTold
region_or_none (Ok r) = region_told r
region_or_none (Err n) = no_region_told

abbrev pub region_of_row_or_zeros : WorldNow → ℕ → ℕ → RegionTold
region_of_row_or_zeros w guest n = region_or_none (region_asked w guest (n / 6) (n % 6))

abbrev pub is_same_region : RegionTold → RegionTold → Bool
is_same_region a b =
    a.first == b.first && a.size == b.size && a.space == b.space && a.prefetchable == b.prefetchable
    && a.is_open == b.is_open

abbrev pub region_change_row : RegionTold → RegionTold → PlaceRow
region_change_row now before = record { now = now; before = before; has_moved = one_if (not (is_same_region now before)); reserved = 0 }

abbrev pub places_from : WorldNow → ℕ → ℕ → List PlaceRow → List PlaceRow
places_from w guest n [] = []
places_from w guest n (p ∷ ps) = region_change_row (region_of_row_or_zeros w guest n) p.now ∷ places_from w guest (n + 1) ps

abbrev pub moved_count : List PlaceRow → ℕ
moved_count ps = count_by (λ (p : PlaceRow). p.has_moved == 1) ps
