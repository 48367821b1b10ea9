-- Handing a board over to guests, no matter which firmware configured it, and the reasons to refuse that.
--     closed_if_given ps r      the first closed region of a function, if it is at one of these paths
--     is_among ps q, first_closed_at ps rows      a region is of such a function; the first closed one
--     number_of f, handover_words n, words_of f      the number of a fault, and the message for a number or a fault
--     handoff_fault f      the fault of the handoff, unless memory is out
--     IsFaultOf w h f      the first fault of a world over a board, unless memory is out
use Rattle.std.specs.{Prelude.{◌≡◌, ◌==◌, ℕ, List, [], Bool, if◌then◌else◌, Option, None, Some, codes, slice_get, filter, IfSome}, List.list_any}
use Rattle.model_board.specs.{Paths.{Path, path_eq}, Routing.RoutingRow}
use Rattle.model_set_up.specs.PlacedRegions.{PlacedRegion}
use Rattle.model_findings.specs.OpenRegions.{closed_of, closed_regions}
use Rattle.model_guests.specs.{Text.Text, World.World}
use Rattle.model_handoff.specs.Regions.{HandoffFault, in_disorder, closed_region, first_fault}
use Rattle.findings.specs.Findings.{problem_of}
use Rattle.host_bridge.specs.HostState.{HostState}
use Rattle.monitor.specs.declared.handover.fault.HandoverFault.{HandoverFault, TheVariants.{NotInOrder, Closed, Memory}}

-- of one function, if it is given
abbrev pub closed_if_given : List Path → RoutingRow → Option PlacedRegion
closed_if_given ps r = if list_any (λ p. path_eq p r.path) ps then slice_get (closed_of r) 0 else None

abbrev pub is_among : List Path → PlacedRegion → Bool
is_among ps q = list_any (λ p. path_eq p q.path) ps

abbrev pub first_closed_at : List Path → List RoutingRow → Option PlacedRegion
first_closed_at ps rows = slice_get (filter (is_among ps) (closed_regions rows)) 0

-- ---- faults

abbrev pub number_of : HandoverFault → ℕ
number_of (NotInOrder p) = 207
number_of (Closed r) = 206
number_of Memory = 299

abbrev pub handover_words : ℕ → Text
handover_words n =
    if n == 206 then codes "closed region"
    else (if n == 207 then codes "not in order" else (if n == 299 then codes "memory" else []))

abbrev pub words_of : HandoverFault → Text
words_of f = handover_words (number_of f)

abbrev pub handoff_fault : HandoverFault → Option HandoffFault
handoff_fault (NotInOrder p) = Some (in_disorder (problem_of p))
handoff_fault (Closed r) = Some (closed_region r)
handoff_fault Memory = None

abbrev pub IsFaultOf : World → HostState → HandoverFault → Type 0
IsFaultOf w h f = IfSome (handoff_fault f) (λ told. first_fault w h.state ≡ Some told)
