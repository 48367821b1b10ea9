-- The agents that answer addresses on a bus, in any register state: an enabled region, or a bridge that forwards. PCI Local
-- Bus 3.0, chapter 6.2.5; PCI-to-PCI Bridge Architecture 1.2, chapter 4.
--     Extent      addresses from a first one up to, but not including, an end
--     forwarded_extents space r      the addresses of a space that a bridge forwards
--     Agent, agents      an enabled region, or a bridge in one of the spaces
--     answers space n a      the agent answers the address
--     on_one_bus a b      both are on one bus
use Rattle.std.specs.{Prelude.{List, [], ◌∷◌, ◌++◌, ℕ, ◌+◌, Bool, ◌&&◌, nat_le, nat_lt, if◌then◌else◌, Option, Some, None, map, flat_map}, List.list_any}
use Rattle.model_registers.specs.Decoding.{Space, io, memory, same_space, opens_space}
use Rattle.model_board.specs.{Paths.{Path, path_eq, parent}, Windows.Window, Routing.{RoutingRow, regions, windows}}
use Rattle.model_set_up.specs.PlacedRegions.{PlacedRegion}
use Rattle.model_findings.specs.OpenRegions.{open_of}

pub record Extent : Type 0 where
  pub first : ℕ
  pub end : ℕ

abbrev pub extent_holds : ℕ → Extent → Bool
extent_holds n e = nat_le e.first n && nat_lt n e.end

abbrev pub window_extent : Option Window → List Extent
window_extent None = []
window_extent (Some w) = record { first = w.first; end = w.last + 1 } ∷ []

abbrev pub window_extents : Option Window → Option Window → Option Window → Space → List Extent
window_extents wio wmem wpref io = window_extent wio
window_extents wio wmem wpref memory = window_extent wmem ++ window_extent wpref

-- no addresses, unless its Command enables the space
abbrev pub forwarded_extents : Space → RoutingRow → List Extent
forwarded_extents space r = elim r.ranges [
  | regions bs ↦ []
  | windows wio wmem wpref ↦ if opens_space r.command space then window_extents wio wmem wpref space else []
]

-- ---- agents

-- a region has a register; a bridge has none, and its two memory windows may overlap because one agent answers
pub record Agent : Type 0 where
  pub path : Path
  pub register : Option ℕ
  pub space : Space
  pub extents : List Extent

abbrev pub region_agent : PlacedRegion → Agent
region_agent q = record {
  path = q.path;
  register = Some q.index;
  space = q.space;
  extents = record { first = q.first; end = q.first + q.size } ∷ [];
}

abbrev pub bridge_agent : RoutingRow → Space → Agent
bridge_agent r space =
    record { path = r.path; register = None; space = space; extents = forwarded_extents space r }

abbrev pub agents_of : RoutingRow → List Agent
agents_of r = elim r.ranges [
  | regions bs ↦ map region_agent (open_of r)
  | windows wio wmem wpref ↦ bridge_agent r io ∷ bridge_agent r memory ∷ []
]

-- in path order, then by register or space
abbrev pub agents : List RoutingRow → List Agent
agents rows = flat_map agents_of rows

abbrev pub answers : Space → ℕ → Agent → Bool
answers space n a = same_space a.space space && list_any (extent_holds n) a.extents

abbrev pub on_one_bus : Agent → Agent → Bool
on_one_bus a b = path_eq (parent a.path) (parent b.path)
