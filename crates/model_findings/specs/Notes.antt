-- Facts about a register state that are reported for information and aren't problems: PCI-to-PCI Bridge Architecture 1.2,
-- chapter 4.
--     Note      an enabled window that contains no address of an enabled region behind its bridge
--     notes rows      all of them, in path order
use Rattle.std.specs.{Prelude.{List, [], ◌∷◌, ◌++◌, ◌+◌, Bool, ◌&&◌, nat_lt, if◌then◌else◌, flat_map}, List.list_any}
use Rattle.model_registers.specs.Decoding.{Space, io, memory, same_space}
use Rattle.model_board.specs.{Paths.{Path, is_ancestor_of}, Routing.RoutingRow}
use Rattle.model_set_up.specs.PlacedRegions.{PlacedRegion}
use Rattle.model_findings.specs.{OpenRegions.open_regions, Agents.{Extent, forwarded_extents}}

pub data Note : Type 0 where
  -- an enabled window of a bridge that contains no address of an enabled region behind the bridge
  idle : Path → Space → Extent → Note

-- a region behind the bridge has one of these addresses
abbrev pub is_behind : Path → Space → Extent → PlacedRegion → Bool
is_behind bridge space e q =
    is_ancestor_of bridge q.path && same_space q.space space && nat_lt q.first e.end && nat_lt e.first (q.first + q.size)

abbrev pub idle_note : List RoutingRow → Path → Space → Extent → List Note
idle_note rows bridge space e =
    if list_any (is_behind bridge space e) (open_regions rows) then [] else idle bridge space e ∷ []

abbrev pub idle_windows : List RoutingRow → RoutingRow → List Note
idle_windows rows r =
    flat_map (idle_note rows r.path io) (forwarded_extents io r)
    ++ flat_map (idle_note rows r.path memory) (forwarded_extents memory r)

abbrev pub notes : List RoutingRow → List Note
notes rows = flat_map (idle_windows rows) rows
