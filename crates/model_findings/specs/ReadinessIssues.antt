-- Whether a board in some register state is ready for use: no problems, and nothing left for an operating system to do. PCI
-- Local Bus 3.0, chapter 6.2.5; PCI-to-PCI Bridge Architecture 1.2, chapters 3.2.5 and 4.
--     aperture_extents, is_in_apertures      the addresses of a space that may be assigned
--     plain_regions      enabled memory regions that aren't prefetchable
--     prefetches n r      a bridge forwards an address through its prefetchable window only
--     least_held test edges q      the least address of a region that passes a test, if it starts to pass only at these edges
--     first_outside, first_prefetched_address      the least address outside the apertures, or that a bridge prefetches
--     ReadinessIssue      a region that is disabled, outside the apertures or prefetched, or a wrong Primary Bus Number; with a witness
--     primary_register file      the Primary Bus Number of a bridge
--     routing_issues a rows      the readiness issues of regions: those that are disabled, outside or prefetched
--     readiness_issues a fs      all readiness issues, kind by kind, in path order, then by register
--     issue_count a fs      how many problems and readiness issues there are
--     is_ready, IsReady      no problems and no readiness issues
use Rattle.std.specs.{Prelude.{List, [], ◌∷◌, ◌++◌, ◌≡◌, ℕ, ◌+◌, Bool, false, ◌&&◌, ◌==◌, not, if◌then◌else◌, Option, None, map, filter, flat_map, length}, List.list_any, Option.{option_map, option_to_list}}
use Rattle.lists.specs.Elements.{first_some}
use Rattle.model_registers.specs.{Registers.{config, File, number}, Apertures.{Aperture, Apertures}, Declarations.{Kind, io_kind, mem32, mem64}, Decoding.{Space, io, memory, opens_space}, EndpointTable.BaseAddress}
use Rattle.model_board.specs.{Paths.{Path, is_ancestor_of, parent}, Board.is_bridge, State.BoardFunction, Windows.is_in, Routing.{RoutingRow, regions, windows, routing}}
use Rattle.model_set_up.specs.PlacedRegions.{PlacedRegion, holds}
use Rattle.model_findings.specs.{OpenRegions.{region_now, open_regions, closed_regions}, Agents.{Extent, extent_holds, window_extent}, Problems.{least, problems}, Found.current_bus_number}

-- ---- apertures

abbrev pub aperture_extent : Aperture → Extent
aperture_extent a = record { first = a.first; end = a.last + 1 }

-- memory has two apertures if the board has a prefetchable aperture
abbrev pub aperture_extents : Apertures → Space → List Extent
aperture_extents a io = aperture_extent a.io ∷ []
aperture_extents a memory = aperture_extent a.mem ∷ option_to_list (option_map aperture_extent a.pref)

abbrev pub is_in_apertures : Apertures → Space → ℕ → Bool
is_in_apertures a space n = list_any (extent_holds n) (aperture_extents a space)

-- ---- memory that is not prefetchable

abbrev pub is_non_prefetchable_memory : Kind → Bool
is_non_prefetchable_memory io_kind = false
is_non_prefetchable_memory (mem32 pref) = not pref
is_non_prefetchable_memory (mem64 pref) = not pref

abbrev pub plain_of : RoutingRow → List PlacedRegion
plain_of r = elim r.ranges [
  | regions bs ↦
      filter (λ q. opens_space r.command q.space)
      (map (region_now r.path) (filter (λ (b : BaseAddress). is_non_prefetchable_memory b.kind) bs))
  | windows wio wmem wpref ↦ []
]

abbrev pub plain_regions : List RoutingRow → List PlacedRegion
plain_regions rows = flat_map plain_of rows

-- by the prefetchable window and not by the memory window
abbrev pub prefetches : ℕ → RoutingRow → Bool
prefetches n r = elim r.ranges [
  | regions bs ↦ false
  | windows wio wmem wpref ↦ opens_space r.command memory && is_in n wpref && not (is_in n wmem)
]

-- ---- witnesses

-- such addresses begin at the region's first byte or at one of these
abbrev pub least_held : (ℕ → Bool) → List ℕ → PlacedRegion → Option ℕ
least_held test edges q = least (filter (λ n. holds q.space n q && test n) (q.first ∷ edges))

-- addresses outside the apertures begin at the end of an aperture
abbrev pub first_outside : Apertures → PlacedRegion → Option ℕ
first_outside a q =
    least_held (λ n. not (is_in_apertures a q.space n)) (map (λ (e : Extent). e.end) (aperture_extents a q.space)) q

-- prefetched addresses begin at the prefetchable window's base, or after the memory window's limit
abbrev pub prefetch_edges : RoutingRow → List ℕ
prefetch_edges r = elim r.ranges [
  | regions bs ↦ []
  | windows wio wmem wpref ↦
      map (λ (e : Extent). e.first) (window_extent wpref) ++ map (λ (e : Extent). e.end) (window_extent wmem)
]

abbrev pub first_prefetched_address : RoutingRow → PlacedRegion → Option ℕ
first_prefetched_address r q = least_held (λ n. prefetches n r) (prefetch_edges r) q

-- ---- readiness issues

pub data ReadinessIssue : Type 0 where
  -- Command disables the region's space
  not_open : PlacedRegion → ReadinessIssue
  -- an enabled region, and its least address outside the apertures of its space
  outside_apertures : PlacedRegion → ℕ → ReadinessIssue
  -- an enabled memory region that isn't prefetchable, the first bridge above it that prefetches some of it, and the
  -- least address that it prefetches
  prefetched_by : PlacedRegion → Path → ℕ → ReadinessIssue
  -- a bridge, the value of its Primary Bus Number register, and the number of the bus that it is on
  other_primary : Path → ℕ → ℕ → ReadinessIssue

abbrev pub outside_issue : Apertures → PlacedRegion → List ReadinessIssue
outside_issue a q = option_to_list (option_map (outside_apertures q) (first_outside a q))

abbrev pub prefetch_blame : PlacedRegion → RoutingRow → Option ReadinessIssue
prefetch_blame q r = if is_ancestor_of r.path q.path then option_map (prefetched_by q r.path) (first_prefetched_address r q) else None

abbrev pub prefetch_issue : List RoutingRow → PlacedRegion → List ReadinessIssue
prefetch_issue rows q = option_to_list (first_some (prefetch_blame q) rows)

-- one byte
abbrev pub primary_register : File → ℕ
primary_register file = number file (config 0x18) 1

abbrev pub primary_bus_issue : List BoardFunction → BoardFunction → List ReadinessIssue
primary_bus_issue fs f =
    if is_bridge f.decl && not (primary_register f.file == current_bus_number fs (parent f.path))
    then other_primary f.path (primary_register f.file) (current_bus_number fs (parent f.path)) ∷ [] else []

-- the issues that routing registers show
abbrev pub routing_issues : Apertures → List RoutingRow → List ReadinessIssue
routing_issues a rows =
    map not_open (closed_regions rows) ++ flat_map (outside_issue a) (open_regions rows)
    ++ flat_map (prefetch_issue rows) (plain_regions rows)

abbrev pub readiness_issues : Apertures → List BoardFunction → List ReadinessIssue
readiness_issues a fs = routing_issues a (routing fs) ++ flat_map (primary_bus_issue fs) fs

abbrev pub issue_count : Apertures → List BoardFunction → ℕ
issue_count a fs = length (problems fs) + length (readiness_issues a fs)

abbrev pub is_ready : Apertures → List BoardFunction → Bool
is_ready a fs = issue_count a fs == 0

pub record IsReady (a : Apertures) (fs : List BoardFunction) : Type 0 where
  pub no_problems : problems fs ≡ []
  pub no_issues : readiness_issues a fs ≡ []
