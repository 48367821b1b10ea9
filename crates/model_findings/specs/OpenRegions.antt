-- The current addresses of regions, in any register state: PCI Local Bus 3.0, chapter 6.2.5.
--     region_now p b      the region of a base address register of the function at p
--     open_regions, closed_regions      regions whose space Command enables, or disables, in path order, then by register
--     open_claim      the claim of the first enabled region that contains an address
use Rattle.std.specs.Prelude.{List, [], ℕ, not, Option, map, filter, flat_map}
use Rattle.lists.specs.Elements.{first_some}
use Rattle.model_registers.specs.{EndpointTable.BaseAddress, Decoding.{Space, space_of, opens_space}}
use Rattle.model_board.specs.{Paths.Path, Claims.Claim, Routing.{RoutingRow, regions, windows}}
use Rattle.model_set_up.specs.PlacedRegions.{PlacedRegion, claim_in}

-- a region at the address in its register
abbrev pub region_now : Path → BaseAddress → PlacedRegion
region_now p b = record { path = p; index = b.index; space = space_of b.kind; first = b.base; size = b.size }

abbrev pub regions_of : RoutingRow → List PlacedRegion
regions_of r = elim r.ranges [ regions bs ↦ map (region_now r.path) bs | windows wio wmem wpref ↦ [] ]

abbrev pub open_of : RoutingRow → List PlacedRegion
open_of r = filter (λ q. opens_space r.command q.space) (regions_of r)

abbrev pub closed_of : RoutingRow → List PlacedRegion
closed_of r = filter (λ q. not (opens_space r.command q.space)) (regions_of r)

abbrev pub open_regions : List RoutingRow → List PlacedRegion
open_regions rows = flat_map open_of rows

-- these regions answer no address
abbrev pub closed_regions : List RoutingRow → List PlacedRegion
closed_regions rows = flat_map closed_of rows

abbrev pub open_claim : List RoutingRow → Space → ℕ → Option Claim
open_claim rows space n = first_some (claim_in space n) (open_regions rows)
