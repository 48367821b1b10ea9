-- Set-up leaves a handoff.
--     SetUpIsHandoff, SetUpIsInOrder      it is a handoff of the board, and consistent
--     SetUpCanBeGiven      no assigned function has a disabled region
--     SetUpPlaces, SetUpAddresses      its regions are where set-up placed them, and its bus numbers are the board's
use Rattle.std.specs.Prelude.{◌≡◌, IsTrue}
use Rattle.lists.specs.Elements.{Each, IsIn}
use Rattle.model_registers.specs.{Declarations.{Region, Endpoint}, Apertures.Apertures}
use Rattle.model_board.specs.{Paths.Path, Board.{endpoint, Board, IsBoard}, BusNumbers.Enumerates, Lawful.HasLawfulDecls, AtReset.board_at}
use Rattle.model_set_up.specs.{Reach.address_of, SetUp.{first_of, set_up_state}, UniqueClaimant.CanBePlaced}
use Rattle.model_findings.specs.{Found.current_bdf, Witnesses.IsInOrder}
use Rattle.model_guests.specs.World.{World}
use Rattle.model_handoff.specs.{Handoffs.IsHandoff, Regions.{base_in, opens_region, CanBeGiven}}

abbrev pub SetUpIsHandoff : Type 0
SetUpIsHandoff = (b : Board) (a : Apertures) → IsBoard b → HasLawfulDecls b
    → IsHandoff (set_up_state b a) × (board_at (set_up_state b a).functions ≡ b)

abbrev pub SetUpIsInOrder : Type 0
SetUpIsInOrder = (b : Board) (a : Apertures) → Enumerates b → CanBePlaced b a → IsInOrder (set_up_state b a).functions

abbrev pub SetUpCanBeGiven : Type 0
SetUpCanBeGiven = (w : World) → Enumerates w.board → CanBePlaced w.board w.apertures
    → CanBeGiven w (set_up_state w.board w.apertures)

abbrev pub SetUpPlaces : Type 0
SetUpPlaces = (b : Board) (a : Apertures) → CanBePlaced b a
    → (p : Path) (d : Endpoint) → IsIn (record { path = p; decl = endpoint d }) b → (r : Region) → IsIn r d.regions
    → (base_in (set_up_state b a) p r ≡ first_of b a p r) × IsTrue (opens_region (set_up_state b a) p r)

abbrev pub SetUpAddresses : Type 0
SetUpAddresses = (b : Board) (a : Apertures) → IsBoard b → Enumerates b
    → Each (λ f. current_bdf (set_up_state b a).functions f.path ≡ address_of b f.path) (set_up_state b a).functions
