-- The explanation of an address, computed from routing registers and the declarations of bridges.
--     row_windows, row_hindrance, row_stop      of a bridge, by its row
--     RegionWithCommand, held_in, held_of, silent_holders      regions that hold an address and don't answer, each with its function's Command
--     causes_at, told_from      all that keeps such a region from answering, by its path and Command; what is told of it
--     is_held_as_at_reset, held_apart      it stands where reset leaves it, by its Command; those that don't
--     selected t g xs      of the elements that pass a test
--     row_forwarder, forwarders_among      a bridge that forwards the address, by its row; those among some functions
use Rattle.std.specs.Prelude.{List, [], ◌∷◌, ◌++◌, ℕ, Bool, ◌&&◌, ◌==◌, not, if◌then◌else◌, Option, Some, None, map, filter, flat_map, reverse, unwrap_or}
use Rattle.model_registers.specs.{Declarations.Bridge, Decoding.{Space, io, memory, opens_space}}
use Rattle.model_board.specs.{Paths.{Path, is_ancestor_of}, Claims.Claim, State.BoardFunction, Routing.{Ranges, regions, windows, RoutingRow, row_forwards, is_routed}}
use Rattle.model_set_up.specs.PlacedRegions.{PlacedRegion, holds}
use Rattle.model_findings.specs.OpenRegions.{regions_of}
use Rattle.model_lines.specs.Why.{NamedWindow, named, for_memory, io_windows, pref_windows, BlockReason, closes, misses, Cause, closed_by, stopped_at, blockers, is_answering_bar, UnansweredRegion, Forwarder, forwarder, reaches_and_forwards}
use Rattle.findings.specs.declared.holding.RegionWithCommand.{RegionWithCommand}

abbrev pub row_windows : Space → Bridge → Ranges → List NamedWindow
row_windows space d (regions bs) = []
row_windows io d (windows wio wmem wpref) = io_windows d.io wio
row_windows memory d (windows wio wmem wpref) = named for_memory wmem ∷ pref_windows d.pref wpref

abbrev pub row_hindrance : Space → Option Bridge → RoutingRow → BlockReason
row_hindrance space None r = misses []
row_hindrance space (Some d) r =
    if opens_space r.command space then misses (row_windows space d r.ranges) else closes r.command

abbrev pub row_stop : Space → ℕ → Path → Option Bridge → RoutingRow → Option Cause
row_stop space n p d r =
    if is_ancestor_of r.path p && not (row_forwards space n r) then Some (stopped_at r.path (row_hindrance space d r)) else None

-- ---- regions that hold the address

abbrev pub is_held : Space → ℕ → Option Claim → PlacedRegion → Bool
is_held space n answer q = holds space n q && not (is_answering_bar answer q)

abbrev pub held_in : Space → ℕ → Option Claim → ℕ → List PlacedRegion → List RegionWithCommand
held_in space n answer command qs =
    map (λ q. record { region = q; command = command }) (filter (is_held space n answer) qs)

abbrev pub held_of : Space → ℕ → Option Claim → RoutingRow → List RegionWithCommand
held_of space n answer r = held_in space n answer r.command (regions_of r)

abbrev pub silent_holders : Space → ℕ → Option Claim → List RoutingRow → List RegionWithCommand
silent_holders space n answer rows = flat_map (held_of space n answer) rows

-- ---- what keeps them from answering

abbrev pub causes_at : List BoardFunction → Space → ℕ → Path → ℕ → List Cause
causes_at fs space n p command =
    reverse (blockers fs space n p ++ (if opens_space command space then [] else closed_by command ∷ []))

abbrev pub told_from : List BoardFunction → Space → ℕ → RegionWithCommand → UnansweredRegion
told_from fs space n h = record { region = h.region; causes = causes_at fs space n h.region.path h.command }

abbrev pub is_held_as_at_reset : Space → RegionWithCommand → Bool
is_held_as_at_reset space h = h.region.first == 0 && not (opens_space h.command space)

abbrev pub held_apart : Space → List RegionWithCommand → List RegionWithCommand
held_apart space hs = filter (λ h. not (is_held_as_at_reset space h)) hs

-- ---- one by one

abbrev pub selected : {A B : Type 0} → (A → Bool) → (A → B) → List A → List B
selected t g xs = flat_map (λ x. if t x then g x ∷ [] else []) xs

abbrev pub row_forwarder : Space → ℕ → List RoutingRow → Option ℕ → RoutingRow → List Forwarder
row_forwarder space n rows bus r =
    if row_forwards space n r && is_routed rows r.path space n
    then record { path = r.path; bus = unwrap_or bus 0 } ∷ [] else []

abbrev pub forwarders_among : List BoardFunction → Space → ℕ → List BoardFunction → List Forwarder
forwarders_among fs space n gs = selected (reaches_and_forwards fs space n) forwarder gs
