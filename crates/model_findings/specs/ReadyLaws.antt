-- The properties of a ready register state: PCI Local Bus 3.0, chapter 6.2.5; PCI-to-PCI Bridge Architecture
-- 1.2, chapters 3.2.5 and 4.
--     IsWithinApertures, PrefetchesNone      each address of a region is in an aperture; a bridge prefetches none of them
--     IsClosed, IsOutside, IsPrefetched, HasOtherPrimary      the meaning of an issue of each kind
--     IsRealLack, LacksAreReal      each reported issue is real
--     LacksNothing, LacksDecide      no region or bridge has an issue; none is reported if and only if this holds
--     ReadyDecides      ready, as a test and as a proposition, means consistent and without issues
--     IsUsable, ReadyIsUsable      each byte of each endpoint's regions is claimed, within the apertures
--     ReadyIsFound      and each function is reached by its own BDF only
--     SetUpIsReady      the state that set-up leaves is ready
--     HasPrimaries, ReadyAsSetUp      so is each state with the same routing registers and bus numbers
use Rattle.std.specs.Prelude.{List, [], ◌∷◌, ◌++◌, ◌≡◌, ℕ, ◌≤◌, ◌<◌, IsTrue, IsFalse, ◌↔◌}
use Rattle.lists.specs.Elements.{IsIn, Each}
use Rattle.model_registers.specs.{Apertures.Apertures, Declarations.{Region, Endpoint}, Decoding.{opens_space, is_open, space_of, base_address}}
use Rattle.model_board.specs.{Paths.{Path, is_ancestor_of, parent}, Board.{Board, endpoint, is_bridge}, BusNumbers.{bus_of, Enumerates}, State.BoardFunction, Routing.{RoutingRow, routing}}
use Rattle.model_set_up.specs.{PlacedRegions.{PlacedRegion, holds}, Reach.HasNumbers, SetUp.set_up_state, UniqueClaimant.{CanBePlaced, IsClaimed}}
use Rattle.model_findings.specs.{OpenRegions.{region_now, regions_of, open_regions}, Orderly.IsStateOfBoard, Found.{current_bus_number, IsFoundOnce}, Witnesses.IsInOrder, ReadinessIssues.{is_in_apertures, is_non_prefetchable_memory, plain_regions, prefetches, ReadinessIssue, primary_register, not_open, outside_apertures, prefetched_by, other_primary, readiness_issues, is_ready, IsReady}}

abbrev pub IsWithinApertures : Apertures → PlacedRegion → Type 0
IsWithinApertures a q = (n : ℕ) → IsTrue (holds q.space n q) → IsTrue (is_in_apertures a q.space n)

abbrev pub PrefetchesNone : PlacedRegion → RoutingRow → Type 0
PrefetchesNone q r = IsTrue (is_ancestor_of r.path q.path) → (n : ℕ) → IsTrue (holds q.space n q) → IsFalse (prefetches n r)

-- ---- each readiness issue is real

pub record IsClosed (rows : List RoutingRow) (q : PlacedRegion) : Type 0 where
  pub row : RoutingRow
  pub there : IsIn row rows
  pub region : IsIn q (regions_of row)
  pub closed : IsFalse (opens_space row.command q.space)

pub record IsOutside (a : Apertures) (rows : List RoutingRow) (q : PlacedRegion) (n : ℕ) : Type 0 where
  pub region : IsIn q (open_regions rows)
  pub byte : IsTrue (holds q.space n q)
  pub outside : IsFalse (is_in_apertures a q.space n)
  pub least : (m : ℕ) → IsTrue (holds q.space m q) → IsFalse (is_in_apertures a q.space m) → n ≤ m

pub record IsPrefetched (rows : List RoutingRow) (q : PlacedRegion) (bridge : Path) (n : ℕ) : Type 0 where
  pub region : IsIn q (plain_regions rows)
  -- the bridge among the rows, and those before it
  pub row : RoutingRow
  pub before : List RoutingRow
  pub after : List RoutingRow
  pub rows_are : rows ≡ before ++ row ∷ after
  pub bridge_is : row.path ≡ bridge
  pub above : IsTrue (is_ancestor_of bridge q.path)
  pub first : Each (PrefetchesNone q) before
  pub byte : IsTrue (holds q.space n q)
  pub prefetched : IsTrue (prefetches n row)
  pub least : (m : ℕ) → IsTrue (holds q.space m q) → IsTrue (prefetches m row) → n ≤ m

pub record HasOtherPrimary (fs : List BoardFunction) (p : Path) (held number : ℕ) : Type 0 where
  pub bridge : BoardFunction
  pub there : IsIn bridge fs
  pub is_one : IsTrue (is_bridge bridge.decl)
  pub path_is : bridge.path ≡ p
  pub held_is : held ≡ primary_register bridge.file
  pub number_is : number ≡ current_bus_number fs (parent p)
  pub other : held ≡ number → ⊥

abbrev pub IsRealLack : Apertures → List BoardFunction → ReadinessIssue → Type 0
IsRealLack a fs (not_open q) = IsClosed (routing fs) q
IsRealLack a fs (outside_apertures q n) = IsOutside a (routing fs) q n
IsRealLack a fs (prefetched_by q p n) = IsPrefetched (routing fs) q p n
IsRealLack a fs (other_primary p held number) = HasOtherPrimary fs p held number

abbrev pub LacksAreReal : Type 0
LacksAreReal = (a : Apertures) (fs : List BoardFunction) → Each (IsRealLack a fs) (readiness_issues a fs)

-- ---- none is left out

pub record LacksNothing (a : Apertures) (fs : List BoardFunction) : Type 0 where
  pub open_all : Each (λ r. Each (λ q. IsTrue (opens_space r.command q.space)) (regions_of r)) (routing fs)
  pub within : Each (IsWithinApertures a) (open_regions (routing fs))
  pub unprefetched : Each (λ q. Each (PrefetchesNone q) (routing fs)) (plain_regions (routing fs))
  pub primaries : Each (λ f. IsTrue (is_bridge f.decl) → primary_register f.file ≡ current_bus_number fs (parent f.path)) fs

abbrev pub LacksDecide : Type 0
LacksDecide = (a : Apertures) (fs : List BoardFunction) → (readiness_issues a fs ≡ []) ↔ LacksNothing a fs

abbrev pub ReadyDecides : Type 0
ReadyDecides = (a : Apertures) (fs : List BoardFunction)
    → (IsTrue (is_ready a fs) ↔ IsReady a fs) × (IsReady a fs ↔ (IsInOrder fs × LacksNothing a fs))

-- ---- a ready state can be used

-- a region that an endpoint declares, at the address in its register
pub record IsUsable (a : Apertures) (fs : List BoardFunction) (f : BoardFunction) (g : Region) : Type 0 where
  pub opened : IsTrue (is_open f.file (space_of g.kind))
  pub each_byte : (k : ℕ) → k < g.size → IsClaimed fs (region_now f.path (base_address f.file g)) k
  pub within : IsWithinApertures a (region_now f.path (base_address f.file g))
  -- no bridge above prefetches a region that isn't prefetchable
  pub unprefetched : IsTrue (is_non_prefetchable_memory g.kind)
      → Each (PrefetchesNone (region_now f.path (base_address f.file g))) (routing fs)

abbrev pub ReadyIsUsable : Type 0
ReadyIsUsable = (a : Apertures) (fs : List BoardFunction) → IsStateOfBoard fs → IsReady a fs
    → (f : BoardFunction) → IsIn f fs → (d : Endpoint) → f.decl ≡ endpoint d → (g : Region) → IsIn g d.regions
    → IsUsable a fs f g

abbrev pub ReadyIsFound : Type 0
ReadyIsFound = (a : Apertures) (fs : List BoardFunction) → IsStateOfBoard fs → IsReady a fs → Each (IsFoundOnce fs) fs

-- ---- after set-up

abbrev pub SetUpIsReady : Type 0
SetUpIsReady = (b : Board) (a : Apertures) → Enumerates b → CanBePlaced b a → IsReady a (set_up_state b a).functions

-- the Primary Bus Number of each bridge is the number of the bus that it is on
abbrev pub HasPrimaries : Board → List BoardFunction → Type 0
HasPrimaries b fs = Each (λ f. IsTrue (is_bridge f.decl) → primary_register f.file ≡ bus_of b f.path) fs

abbrev pub ReadyAsSetUp : Type 0
ReadyAsSetUp = (b : Board) (a : Apertures) → Enumerates b → CanBePlaced b a → (fs : List BoardFunction)
    → routing fs ≡ routing (set_up_state b a).functions → HasNumbers b fs → HasPrimaries b fs → IsReady a fs
