-- Possible mistakes in a board file whose board can be set up.
--     has_none_behind      none of these functions is on the bus behind the bridge at a path
--     is_given      one of the guests has the function at a path in a slot
--     is_aperture_too_wide x      the aperture of a pool is more than ten times what the pool uses, and it uses something
--     empty_bridge_remarks, unassigned_remarks (where the file has guests), empty_guest_remarks      all of which this is so, in order
--     wide_aperture_remarks xs, aperture_remarks_if_all_warned w xs      a remark for each wide aperture; if these are selected
--     warnings w f xs      what is warned of, in order
use Rattle.std.specs.{Prelude.{ℕ, ◌*◌, ◌==◌, Bool, false, not, ◌&&◌, nat_lt, List, [], ◌++◌, filter, length, map, Option, Some, None, if◌then◌else◌}, List.{list_all, list_any, enumerate_from}}
use Rattle.model_board.specs.Paths.{Path, path_eq, parent}
use Rattle.board_file.specs.{Endpoints.Endpoint, Entries.{Bridge, Guest, File}, EntryRules.are_same_valid_path, PathTexts.path_at}
use Rattle.window_packing.specs.declared.pool_uses.PoolUse.{PoolUse}
use Rattle.board_fit.specs.declared.{pool_fit.PoolFit.PoolFit, remark.Remark.Remark, warning_level.WarningLevel.WarningLevel}
use Rattle.board_fit.specs.declared.remark.Remark.TheVariants as remark
use Rattle.board_fit.specs.declared.warning_level.WarningLevel.TheVariants as warned

-- a remark on an entry of the file, by its place there
abbrev pub with_index : {A : Type 0} → (ℕ → Remark) → ℕ × A → Remark
with_index remark (i, x) = remark i

-- ---- bridges

abbrev pub endpoint_path : Endpoint → Path
endpoint_path e = path_at e.at

abbrev pub bridge_path : Bridge → Path
bridge_path b = path_at b.at

abbrev pub all_function_paths : File → List Path
all_function_paths f = map endpoint_path f.endpoints ++ map bridge_path f.bridges

-- on the bus behind a bridge
abbrev pub is_behind : Path → Path → Bool
is_behind bridge p = path_eq bridge (parent p)

abbrev pub has_none_behind : List Path → Path → Bool
has_none_behind paths bridge = list_all (λ p. not (is_behind bridge p)) paths

abbrev pub empty_bridge_remarks : File → List Remark
empty_bridge_remarks f =
    map (with_index remark.EmptyBridge)
    (filter (λ p. has_none_behind (all_function_paths f) (bridge_path p.1)) (enumerate_from 0 f.bridges))

-- ---- endpoints

abbrev pub has_as_slot : List ℕ → Guest → Bool
has_as_slot at g = list_any (λ s. are_same_valid_path s at) g.slots

abbrev pub is_given : List Guest → List ℕ → Bool
is_given gs at = list_any (has_as_slot at) gs

-- a file without guests is for none
abbrev pub unassigned_remarks : File → List Remark
unassigned_remarks f =
    if length f.guests == 0 then []
    else map (with_index remark.EndpointOfNone)
    (filter (λ p. not (is_given f.guests p.1.at)) (enumerate_from 0 f.endpoints))

-- ---- guests

abbrev pub empty_guest_remarks : List Guest → List Remark
empty_guest_remarks gs =
    map (with_index remark.GuestWithoutSlots) (filter (λ p. length p.1.slots == 0) (enumerate_from 0 gs))

-- ---- apertures

abbrev pub is_over_ten_times_used : ℕ → PoolUse → Bool
is_over_ten_times_used size u = not (u.extent == 0) && nat_lt (u.extent * 10) size

abbrev pub is_wide_for : Option ℕ → Option PoolUse → Bool
is_wide_for (Some size) (Some u) = is_over_ten_times_used size u
is_wide_for (Some size) None = false
is_wide_for None u = false

abbrev pub is_aperture_too_wide : PoolFit → Bool
is_aperture_too_wide x = is_wide_for x.size x.used

abbrev pub wide_aperture : PoolFit → Remark
wide_aperture x = remark.WideAperture x.pool

abbrev pub wide_aperture_remarks : List PoolFit → List Remark
wide_aperture_remarks xs = map wide_aperture (filter is_aperture_too_wide xs)

-- on a small board wide apertures are no mistake
abbrev pub aperture_remarks_if_all_warned : WarningLevel → List PoolFit → List Remark
aperture_remarks_if_all_warned warned.Likely xs = []
aperture_remarks_if_all_warned warned.All xs = wide_aperture_remarks xs

-- ---- all

abbrev pub warnings : WarningLevel → File → List PoolFit → List Remark
warnings w f xs = empty_bridge_remarks f ++ unassigned_remarks f ++ empty_guest_remarks f.guests ++ aperture_remarks_if_all_warned w xs
