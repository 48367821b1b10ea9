-- Laws of guests on a board after set-up: every law for any handoff applies to it.
--     OverSetUp      after set-up of any lawful board, whatever guests are seated there
--     SetUpAgrees, SetUpIsOnly      exactly one state agrees with the guests
--     SetUpAtFirst      before any event it is the state that set-up leaves
--     SetUpKeepsRouting, SetUpKeepsNumbers      routing registers and bus numbers are as set-up left them
--     ReachesRegion      a hit in a function corresponds to a byte of the board's region, which is placed and claimed there
--     HitReachesRegion      this holds for each hit in a seated function
use Rattle.std.specs.Prelude.{List, ◌≡◌, ℕ, ◌+◌, ◌%◌, Some}
use Rattle.lists.specs.Elements.{IsIn}
use Rattle.model_registers.specs.{Apertures.Apertures, Declarations.Region, Decoding.{Space, io, Function, Hit, lone_claim}, DecodingLaws.IsHitIn}
use Rattle.model_board.specs.{Paths.Path, Board.{Board, IsBoard}, BusNumbers.Enumerates, Claims.first_claim, Lawful.HasLawfulDecls, Ports.{port_target, ordinary}, Routing.routing, State.{BoardFunction, State}}
use Rattle.model_set_up.specs.{PlacedRegions.placed, Reach.HasNumbers, SetUp.{first_of, set_up_state}, UniqueClaimant.{CanBePlaced, IsPlacedWithin}}
use Rattle.model_guests.specs.{World.{World, IsLawfulWorld}, Guests.{GuestsNow, guests_at_first}, AgreedBoard.state_over, AgreedLaws.Agrees, Seated.{IsSeatedAt, AreSeated}}

abbrev pub OverSetUp : (State → GuestsNow → Type 0) → Type 0
OverSetUp P = (b : Board) (a : Apertures) → IsBoard b → HasLawfulDecls b → (gs : GuestsNow) → AreSeated b gs
    → P (set_up_state b a) gs

abbrev pub SetUpAgrees : Type 0
SetUpAgrees = OverSetUp (λ s gs. Agrees s gs (state_over s gs))

abbrev pub SetUpIsOnly : Type 0
SetUpIsOnly = OverSetUp (λ s gs. (now : State) → Agrees s gs now → now ≡ state_over s gs)

abbrev pub SetUpAtFirst : Type 0
SetUpAtFirst = (w : World) → IsLawfulWorld w
    → state_over (set_up_state w.board w.apertures) (guests_at_first w) ≡ set_up_state w.board w.apertures

abbrev pub SetUpKeepsRouting : Type 0
SetUpKeepsRouting = OverSetUp (λ s gs. routing (state_over s gs).functions ≡ routing s.functions)

abbrev pub SetUpKeepsNumbers : Type 0
SetUpKeepsNumbers = (b : Board) (a : Apertures) → IsBoard b → HasLawfulDecls b → (gs : GuestsNow) → AreSeated b gs
    → Enumerates b → HasNumbers b (state_over (set_up_state b a) gs).functions

-- ---- regions

-- for the function f at p, where n is the guest's address
pub record ReachesRegion (b : Board) (a : Apertures) (fs : List BoardFunction) (p : Path) (f : Function)
    (space : Space) (n : ℕ) (h : Hit) : Type 0 where
  pub region : Region
  pub declared : IsIn region f.decl.regions
  pub hit : IsHitIn space n region h
  pub within : IsPlacedWithin (placed b a p region)
  pub claimed : first_claim fs space (first_of b a p region + h.offset)
      ≡ Some (record { path = p; index = h.index; offset = h.offset })
  pub lanes : (first_of b a p region + h.offset) % 4 ≡ n % 4
  pub ordinary_port : space ≡ io → (latch w : ℕ) → port_target latch (first_of b a p region + h.offset) w ≡ ordinary

abbrev pub HitReachesRegion : Type 0
HitReachesRegion = (b : Board) (a : Apertures) → CanBePlaced b a → (gs : GuestsNow) → AreSeated b gs
    → (p : Path) (f : Function) → IsSeatedAt b p f → (space : Space) (n : ℕ) (h : Hit) → lone_claim f space n ≡ Some h
    → ReachesRegion b a (state_over (set_up_state b a) gs).functions p f space n h
