-- After set-up every address has at most one claim, and each byte of a placed region is claimed: PCI-to-PCI Bridge
-- Architecture 1.2, chapter 4.
--     CanBePlaced      lawful declarations and apertures, I/O paths, and room in all three pools
--     HasUniqueClaims      an address is claimed by the placed region that contains it, and by no other
--     UniqueClaimant      this holds with the routing registers that set-up leaves
--     ClaimOfRegion      so a byte of a declared region is claimed at the address where set-up placed it
--     PlacedWithin      the addresses at which a declared region may be placed
--     ClaimInAnyOrder      a list of the placed regions in any order gives the same claim
--     RowsArePlaced      the regions among the rows of the layout are the placed regions
use Rattle.std.specs.{Prelude.{List, ◌≡◌, ℕ, ◌<◌, ◌+◌, ◌%◌, ◌^◌, ◌≤◌, Some, IsTrue, ◌↔◌}, Option.option_to_list}
use Rattle.lists.specs.Elements.{Each, EachPair, first_some, IsIn}
use Rattle.model_registers.specs.{Decoding.{Space, io, memory, space_of, same_space}, Declarations.{Region, Endpoint}, Apertures.{IsLawfulApertures, Apertures}}
use Rattle.model_board.specs.{Paths.Path, Board.{endpoint, Board, IsBoard}, State.BoardFunction, Claims.{is_forwarded, claims, first_claim}, Routing.routing, Lawful.HasLawfulDecls}
use Rattle.model_set_up.specs.{Pools.{Pool, has_io_paths}, Placement.fits, Layout.layout, Extents.AreApart, SetUp.{first_of, set_up_state}, PlacedRegions.{PlacedRegion, placed, placed_regions, placed_rows, claim_in, placed_claim}}

pub record CanBePlaced (b : Board) (a : Apertures) : Type 0 where
  pub places : IsBoard b
  pub declarations : HasLawfulDecls b
  pub apertures : IsLawfulApertures a
  pub io_paths : IsTrue (has_io_paths b)
  pub room : (pool : Pool) → IsTrue (fits b a pool)

-- a byte of a placed region is claimed there, through every bridge above
pub record IsClaimed (fs : List BoardFunction) (r : PlacedRegion) (k : ℕ) : Type 0 where
  pub forwarded : IsTrue (is_forwarded fs r.path r.space (r.first + k))
  pub claimed : first_claim fs r.space (r.first + k) ≡ Some (record { path = r.path; index = r.index; offset = k })

-- regions of one space don't overlap
abbrev pub ShareNone : PlacedRegion → PlacedRegion → Type 0
ShareNone r s = IsTrue (same_space r.space s.space) → AreApart r.first r.size s.first s.size

pub record HasUniqueClaims (b : Board) (a : Apertures) (fs : List BoardFunction) : Type 0 where
  -- an address is claimed by the placed region that contains it, and by no other
  pub only : (space : Space) (n : ℕ) → claims fs space n ≡ option_to_list (placed_claim b a space n)
  pub first : (space : Space) (n : ℕ) → first_claim fs space n ≡ placed_claim b a space n
  pub each_byte : Each (λ r. (k : ℕ) → k < r.size → IsClaimed fs r k) (placed_regions b a)
  pub apart : EachPair ShareNone (placed_regions b a)

abbrev pub UniqueClaimant : Type 0
UniqueClaimant = (b : Board) (a : Apertures) → CanBePlaced b a → (fs : List BoardFunction)
    → routing fs ≡ routing (set_up_state b a).functions → HasUniqueClaims b a fs

-- for an endpoint of the board, and a region that it declares
abbrev pub ClaimOfRegion : Type 0
ClaimOfRegion = (b : Board) (a : Apertures) → CanBePlaced b a
    → (fs : List BoardFunction) → routing fs ≡ routing (set_up_state b a).functions
    → (p : Path) (d : Endpoint) → IsIn (record { path = p; decl = endpoint d }) b → (r : Region) → IsIn r d.regions
    → (k : ℕ) → k < r.size
    → first_claim fs (space_of r.kind) (first_of b a p r + k) ≡ Some (record { path = p; index = r.index; offset = k })

-- at a multiple of 4; in I/O from 1000h to FFFFh; in memory below 2^63
pub record IsPlacedWithin (r : PlacedRegion) : Type 0 where
  pub aligned : r.first % 4 ≡ 0
  pub io_begins : r.space ≡ io → 0x1000 ≤ r.first
  pub io_ends : r.space ≡ io → r.first + r.size ≤ 2 ^ 16
  pub memory_ends : r.space ≡ memory → r.first + r.size ≤ 2 ^ 63

abbrev pub PlacedWithin : Type 0
PlacedWithin = (b : Board) (a : Apertures) → CanBePlaced b a
    → (p : Path) (d : Endpoint) → IsIn (record { path = p; decl = endpoint d }) b → (r : Region) → IsIn r d.regions
    → IsPlacedWithin (placed b a p r)

abbrev pub ClaimInAnyOrder : Type 0
ClaimInAnyOrder = (b : Board) (a : Apertures) → CanBePlaced b a → (qs : List PlacedRegion)
    → ((q : PlacedRegion) → IsIn q qs ↔ IsIn q (placed_regions b a))
    → (space : Space) (n : ℕ) → first_some (claim_in space n) qs ≡ placed_claim b a space n

abbrev pub RowsArePlaced : Type 0
RowsArePlaced = (b : Board) (a : Apertures) → IsBoard b → HasLawfulDecls b → (q : PlacedRegion)
    → IsIn q (placed_rows (layout b a)) ↔ IsIn q (placed_regions b a)
