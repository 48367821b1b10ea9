-- The registers that decide where an address goes: PCI Local Bus 3.0, chapter 6.2.5; PCI-to-PCI Bridge Architecture
-- 1.2, chapters 3.2.5 and 4.
--     Ranges      the regions of an endpoint, or the three windows of a bridge
--     RoutingRow      a function's path, Command and ranges
--     routing fs      the routing registers of all functions
--     is_routed, routed_claims, routed_claim      forwarding, claims and the first claim, given only the routing registers
use Rattle.std.specs.Prelude.{
  List,
  [],
  ℕ,
  Bool,
  false,
  ◌&&◌,
  if◌then◌else◌,
  not,
  ◌||◌,
  Option,
  map,
  flat_map,
  slice_get,
}
use Rattle.std.specs.{List.list_all, Option.option_to_list}
use Rattle.model_registers.specs.{Registers.File, EndpointTable.BaseAddress, Decoding.{Space, opens_space, command_word, base_address, Hit, hit_at}}
use Rattle.model_board.specs.{Paths.{Path, is_ancestor_of}, Board.{Decl, endpoint, bridge}, State.BoardFunction, Windows.{Window, io_window, mem_window, pref_window, in_windows}, Claims.{Claim, claim_at}}

-- the regions of an endpoint, or the I/O, memory and prefetchable window of a bridge
pub data Ranges : Type 0 where
  regions : List BaseAddress → Ranges
  windows : Option Window → Option Window → Option Window → Ranges

pub record RoutingRow : Type 0 where
  pub path : Path
  pub command : ℕ
  pub ranges : Ranges

abbrev pub ranges_of : File → Decl → Ranges
ranges_of file (endpoint d) = regions (map (base_address file) d.regions)
ranges_of file (bridge d) = windows (io_window d.io file) (mem_window file) (pref_window d.pref file)

abbrev pub row_of : BoardFunction → RoutingRow
row_of f = record { path = f.path; command = command_word f.file; ranges = ranges_of f.file f.decl }

-- the routing registers of all functions, with the decode of each window; bus numbers are not among them
abbrev pub routing : List BoardFunction → List RoutingRow
routing fs = map row_of fs

-- ---- claims by routing registers

abbrev pub row_forwards : Space → ℕ → RoutingRow → Bool
row_forwards space a r = elim r.ranges [
  | regions bs ↦ false
  | windows wio wmem wpref ↦ opens_space r.command space && in_windows wio wmem wpref space a
]

abbrev pub is_routed : List RoutingRow → Path → Space → ℕ → Bool
is_routed rows p space a = list_all (λ r. not (is_ancestor_of r.path p) || row_forwards space a r) rows

abbrev pub row_hits : Space → ℕ → RoutingRow → List Hit
row_hits space a r = elim r.ranges [
  | regions bs ↦ flat_map (λ b. option_to_list (hit_at r.command space a b)) bs
  | windows wio wmem wpref ↦ []
]

abbrev pub row_claims : List RoutingRow → Space → ℕ → RoutingRow → List Claim
row_claims rows space a r =
    if is_routed rows r.path space a then map (claim_at r.path) (row_hits space a r) else []

abbrev pub routed_claims : List RoutingRow → Space → ℕ → List Claim
routed_claims rows space a = flat_map (row_claims rows space a) rows

abbrev pub routed_claim : List RoutingRow → Space → ℕ → Option Claim
routed_claim rows space a = slice_get (routed_claims rows space a) 0
