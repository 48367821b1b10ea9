-- The placed regions of a board as a flat table: PCI Local Bus 3.0, chapter 6.2.5; PCI-to-PCI Bridge Architecture 1.2,
-- chapter 4.
--     TableEntry      a placed region, with the index of its function in the board's list of functions
--     table_claim t space n      the claim of the table's region that contains an address
--     FitsTable t h      the table has the claims of a host, and its indices are those of the host's functions
use Rattle.std.specs.{Prelude.{List, ◌≡◌, ℕ, Option, Some, map, slice_get}, Option.option_map}
use Rattle.lists.specs.Elements.{Each, first_some}
use Rattle.model_registers.specs.Decoding.{Space}
use Rattle.model_board.specs.{State.BoardFunction, Claims.{Claim, first_claim}}
use Rattle.model_set_up.specs.PlacedRegions.{PlacedRegion, claim_in}
use Rattle.host_bridge.specs.HostState.{HostState}

pub record TableEntry : Type 0 where
  pub function : ℕ
  pub region : PlacedRegion

abbrev pub table_claim : List TableEntry → Space → ℕ → Option Claim
table_claim t space n = first_some (claim_in space n) (map (λ (e : TableEntry). e.region) t)

-- the function at the index has the region's path
abbrev pub IsOfFunction : List BoardFunction → TableEntry → Type 0
IsOfFunction fs e = option_map (λ (f : BoardFunction). f.path) (slice_get fs e.function) ≡ Some e.region.path

pub record FitsTable (t : List TableEntry) (h : HostState) : Type 0 where
  pub claims : (space : Space) (n : ℕ) → table_claim t space n ≡ first_claim h.state.functions space n
  pub functions : Each (IsOfFunction h.state.functions) t
