-- The entries of a file that prevent its board from being set up.
--     first_bridge_blocking_io bs p      of these bridges the first above the function at a path that has no I/O window
--     remarks_on_blocked_io      all regions of I/O behind such a bridge, in order
--     remark_on_bridge_256      the bridge after the 255 that have bus numbers
--     remarks_on_fault_causes f fault      the one or the other, where the fault is that
use Rattle.std.specs.{Prelude.{ℕ, nat_lt, Bool, true, false, ◌&&◌, List, [], ◌∷◌, filter, length, map, flat_map, Option, if◌then◌else◌}, List.{position, enumerate_from}, Option.option_map_or}
use Rattle.model_registers.specs.Declarations.{Kind, io_kind, mem32, mem64, IoDecode, no_io, io16, io32}
use Rattle.model_board.specs.Paths.{Path, is_ancestor_of}
use Rattle.bus_scan.specs.declared.fault.Fault.{Fault, TheVariants.{Buses, NoIoWindow}}
use Rattle.board_file.specs.{Bars.Bar, Endpoints.Endpoint, Entries.{Bridge, File}, PathTexts.path_at}
use Rattle.board_fit.specs.declared.remark.Remark.{Remark}
use Rattle.board_fit.specs.declared.remark.Remark.TheVariants as remark

abbrev pub is_io : Kind → Bool
is_io io_kind = true
is_io (mem32 pref) = false
is_io (mem64 pref) = false

abbrev pub has_no_io_window : IoDecode → Bool
has_no_io_window no_io = true
has_no_io_window io16 = false
has_no_io_window io32 = false

abbrev pub is_above_without_io_window : Path → Bridge → Bool
is_above_without_io_window p b = has_no_io_window b.io && is_ancestor_of (path_at b.at) p

abbrev pub first_bridge_blocking_io : List Bridge → Path → Option ℕ
first_bridge_blocking_io bs p = position (is_above_without_io_window p) bs

abbrev pub no_io_window : ℕ → ℕ → ℕ × Bar → Remark
no_io_window i k (j, b) = remark.NoIoWindow i j k

-- those of a list of regions
abbrev pub no_io_window_bar_remarks : ℕ → ℕ → List Bar → List Remark
no_io_window_bar_remarks i k bars = map (no_io_window i k) (filter (λ p. is_io p.1.kind) (enumerate_from 0 bars))

-- if there is such a bridge
abbrev pub remarks_on_io_bars_if_blocked : ℕ → Option ℕ → List Bar → List Remark
remarks_on_io_bars_if_blocked i o bars = option_map_or (λ k. no_io_window_bar_remarks i k bars) o []

unfoldable pub no_io_window_remarks : List Bridge → ℕ × Endpoint → List Remark
no_io_window_remarks bs (i, e) = remarks_on_io_bars_if_blocked i (first_bridge_blocking_io bs (path_at e.at)) e.bars

abbrev pub remarks_on_blocked_io : File → List Remark
remarks_on_blocked_io f = flat_map (no_io_window_remarks f.bridges) (enumerate_from 0 f.endpoints)

-- a bridge has one of the bus numbers from 1 to 255
abbrev pub remark_on_bridge_256 : File → List Remark
remark_on_bridge_256 f = if nat_lt 255 (length f.bridges) then remark.BridgeTooMany 255 ∷ [] else []

abbrev pub remarks_on_fault_causes : File → Fault → List Remark
remarks_on_fault_causes f Buses = remark_on_bridge_256 f
remarks_on_fault_causes f NoIoWindow = remarks_on_blocked_io f
remarks_on_fault_causes f _ = []
