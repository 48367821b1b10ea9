-- The state that set-up leaves has no problems: PCI Local Bus 3.0, chapter 6.2.5; PCI-to-PCI Bridge Architecture 1.2, chapters 3
-- and 4.
--     SetUpPasses      this holds for every board that set-up accepts
--     RoutedAsSetUp      and for every state with the routing registers and bus numbers that set-up left
use Rattle.std.specs.Prelude.{List, [], ◌≡◌}
use Rattle.model_board.specs.{Board.Board, BusNumbers.Enumerates, State.BoardFunction, Routing.routing}
use Rattle.model_registers.specs.Apertures.{Apertures}
use Rattle.model_set_up.specs.{Reach.HasNumbers, SetUp.set_up_state, UniqueClaimant.CanBePlaced}
use Rattle.model_findings.specs.Problems.{problems}

abbrev pub SetUpPasses : Type 0
SetUpPasses = (b : Board) (a : Apertures) → Enumerates b → CanBePlaced b a → problems (set_up_state b a).functions ≡ []

abbrev pub RoutedAsSetUp : Type 0
RoutedAsSetUp = (b : Board) (a : Apertures) → CanBePlaced b a → (fs : List BoardFunction)
    → routing fs ≡ routing (set_up_state b a).functions → HasNumbers b fs → problems fs ≡ []
