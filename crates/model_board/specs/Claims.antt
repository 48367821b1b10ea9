-- The region that an address reaches, in any register state: PCI-to-PCI Bridge Architecture 1.2, chapter 4.
--     Claim      a function's path, the index of a region's register, and an offset in the region
--     is_forwarded      each bridge on the path forwards the address
--     claims      all claims, in path order, then by register
--     first_claim      the first claim in path order, then by register
use Rattle.std.specs.{Prelude.{List, [], ℕ, Bool, if◌then◌else◌, not, ◌||◌, Option, Some, None, map, flat_map}, List.list_all, Option.{option_map_or, option_to_list}}
use Rattle.lists.specs.Elements.{first_some}
use Rattle.model_registers.specs.Decoding.{Space, Hit, hit_of, lone_claim}
use Rattle.model_board.specs.{Paths.{Path, is_ancestor_of}, Board.{endpoint, bridge}, State.BoardFunction, Windows.forwards}

pub record Claim : Type 0 where
  pub path : Path
  pub index : ℕ
  pub offset : ℕ

abbrev pub is_forwarded : List BoardFunction → Path → Space → ℕ → Bool
is_forwarded fs p space a = list_all (λ f. not (is_ancestor_of f.path p) || forwards space a f) fs

abbrev pub claim_at : Path → Hit → Claim
claim_at p h = record { path = p; index = h.index; offset = h.offset }

-- the regions of an endpoint that decode the address, each with the offset in the region
abbrev pub endpoint_hits : BoardFunction → Space → ℕ → List Hit
endpoint_hits f space a = elim f.decl [
  | endpoint d ↦ flat_map (λ r. option_to_list (hit_of f.file space a r)) d.regions
  | bridge d ↦ []
]

abbrev pub claims_of : List BoardFunction → Space → ℕ → BoardFunction → List Claim
claims_of fs space a f = if is_forwarded fs f.path space a then map (claim_at f.path) (endpoint_hits f space a) else []

-- all claims, in path order, and then by register
abbrev pub claims : List BoardFunction → Space → ℕ → List Claim
claims fs space a = flat_map (claims_of fs space a) fs

-- an endpoint's hit by its own registers; `claim_of` checks the bridges above
abbrev pub endpoint_hit : BoardFunction → Space → ℕ → Option Hit
endpoint_hit f space a = elim f.decl [
  | endpoint d ↦ lone_claim (record { decl = d; file = f.file }) space a
  | bridge d ↦ None
]

abbrev pub claim_of : List BoardFunction → Space → ℕ → BoardFunction → Option Claim
claim_of fs space a f =
    if is_forwarded fs f.path space a
    then option_map_or (λ (h : Hit). Some (claim_at f.path h)) (endpoint_hit f space a) None else None

-- the first in path order, then by register
abbrev pub first_claim : List BoardFunction → Space → ℕ → Option Claim
first_claim fs space a = first_some (claim_of fs space a) fs
