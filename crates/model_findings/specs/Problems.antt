-- The problems of a register state: PCI Local Bus 3.0, chapter 6.2.5; PCI-to-PCI Bridge
-- Architecture 1.2, chapters 3 and 4.
--     least ns      the smallest of some numbers
--     first_unforwarded_address r q      the least byte of a region that a bridge doesn't forward
--     shared a b      the least address that both agents answer
--     Problem      not forwarded, contended or not found, each with a witness
--     routing_problems rows      the problems of the first two kinds: region by region, then pair by pair of agents
--     numbering_problems fs      the problems of the third kind, function by function
--     problems fs      all of them
use Rattle.std.specs.{Prelude.{List, [], ◌∷◌, ◌++◌, ℕ, false, ◌&&◌, not, min, if◌then◌else◌, Option, Some, None, map, filter, flat_map}, Option.{option_map, option_map_or, option_to_list}}
use Rattle.lists.specs.Elements.{first_some}
use Rattle.model_board.specs.{Paths.{Path, path_eq, is_ancestor_of}, State.BoardFunction, Cycles.BusAddress, Routing.{RoutingRow, routing, row_forwards}}
use Rattle.model_set_up.specs.PlacedRegions.{PlacedRegion, holds}
use Rattle.model_findings.specs.{OpenRegions.open_regions, Agents.{forwarded_extents, Agent, agents, answers, on_one_bus}, Found.{current_bdf, path_reached}}

abbrev pub least : List ℕ → Option ℕ
least [] = None
least (n ∷ ns) = Some (option_map_or (min n) (least ns) n)

-- bytes that a bridge doesn't forward begin at the region's first byte, or where a window ends
abbrev pub first_unforwarded_address : RoutingRow → PlacedRegion → Option ℕ
first_unforwarded_address r q =
    least (filter (λ n. holds q.space n q && not (row_forwards q.space n r))
    (q.first ∷ map (λ e. e.end) (forwarded_extents q.space r)))

-- addresses that two agents share begin at the start of an extent of one of them
abbrev pub shared : Agent → Agent → Option ℕ
shared a b =
    least (filter (λ n. answers a.space n a && answers a.space n b) (map (λ e. e.first) (a.extents ++ b.extents)))

pub data Problem : Type 0 where
  -- an enabled region, the first bridge above it that doesn't forward all of it, and the least byte not forwarded
  not_forwarded : PlacedRegion → Path → ℕ → Problem
  -- two agents on one bus, and the least address that both answer
  contended : Agent → Agent → ℕ → Problem
  -- a function, its BDF, and the function that a cycle to this BDF reaches instead, if any
  not_found : Path → BusAddress → Option Path → Problem

abbrev pub blame : PlacedRegion → RoutingRow → Option Problem
blame q r = if is_ancestor_of r.path q.path then option_map (not_forwarded q r.path) (first_unforwarded_address r q) else None

abbrev pub forwarding_problem : List RoutingRow → PlacedRegion → List Problem
forwarding_problem rows q = option_to_list (first_some (blame q) rows)

abbrev pub contention : Agent → Agent → List Problem
contention a b = if on_one_bus a b then option_to_list (option_map (contended a b) (shared a b)) else []

-- each agent with each later one
abbrev pub contentions : List Agent → List Problem
contentions [] = []
contentions (a ∷ bs) = flat_map (contention a) bs ++ contentions bs

abbrev pub routing_problems : List RoutingRow → List Problem
routing_problems rows = flat_map (forwarding_problem rows) (open_regions rows) ++ contentions (agents rows)

abbrev pub numbering_problem : List BoardFunction → BoardFunction → List Problem
numbering_problem fs f =
    if option_map_or (λ q. path_eq q f.path) (path_reached fs f.path) false then []
    else not_found f.path (current_bdf fs f.path) (path_reached fs f.path) ∷ []

abbrev pub numbering_problems : List BoardFunction → List Problem
numbering_problems fs = flat_map (numbering_problem fs) fs

abbrev pub problems : List BoardFunction → List Problem
problems fs = routing_problems (routing fs) ++ numbering_problems fs
