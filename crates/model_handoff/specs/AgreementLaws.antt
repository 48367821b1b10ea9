-- When a state of the board agrees with the guests over a handoff, and the parts of it that no guest can change.
--     OverBoards, OverHandoffs      over any state of a lawful board, over any handoff, whatever guests are seated there
--     StateAgrees, StateIsOnly      exactly one state agrees with the guests
--     FirstIsReset, FirstIsHandoff      before any event the assigned functions are at reset; if they already were, it is the handoff
--     KeepsBoard, KeepsRouting      the functions and the routing registers are those of the handoff
--     KeepsBridges      no guest has a bridge: bus numbers and windows are those of the handoff
--     KeepsNumbers      so if the bridges hold the board's bus numbers, they keep them
--     KeepsReach, KeepsAddresses      configuration cycles reach the same functions at the same BDFs
--     KeepsProblems, StaysInOrder      an audit gives the same result as for the handoff, so a consistent board stays consistent
use Rattle.std.specs.Prelude.{◌≡◌, option_map, IsTrue}
use Rattle.lists.specs.Elements.{Each}
use Rattle.model_board.specs.{Board.is_bridge, Paths.Path, AtReset.board_at, State.State, Cycles.{BusAddress, reached}, Routing.routing}
use Rattle.model_set_up.specs.Reach.{HasNumbers}
use Rattle.model_findings.specs.{Found.current_bdf, Orderly.IsStateOfBoard, Problems.problems, Witnesses.IsInOrder}
use Rattle.model_guests.specs.{World.World, Guests.{GuestsNow, guests_at_first, file_of}, AgreedBoard.{agreed_function, state_over}, AgreedLaws.Agrees, Seated.AreSeated}
use Rattle.model_handoff.specs.Handoffs.{IsHandoff, with_given_reset, HasGivenAtReset}

abbrev pub OverBoards : (State → GuestsNow → Type 0) → Type 0
OverBoards P = (s : State) → IsStateOfBoard s.functions → (gs : GuestsNow) → AreSeated (board_at s.functions) gs
    → P s gs

abbrev pub OverHandoffs : (State → GuestsNow → Type 0) → Type 0
OverHandoffs P = (s : State) → IsHandoff s → (gs : GuestsNow) → AreSeated (board_at s.functions) gs → P s gs

abbrev pub StateAgrees : Type 0
StateAgrees = OverHandoffs (λ s gs. Agrees s gs (state_over s gs))

abbrev pub StateIsOnly : Type 0
StateIsOnly = OverHandoffs (λ s gs. (now : State) → Agrees s gs now → now ≡ state_over s gs)

abbrev pub FirstIsReset : Type 0
FirstIsReset = (w : World) (s : State) → state_over s (guests_at_first w) ≡ with_given_reset w s

abbrev pub FirstIsHandoff : Type 0
FirstIsHandoff = (w : World) (s : State) → IsHandoff s → board_at s.functions ≡ w.board → HasGivenAtReset w s
    → state_over s (guests_at_first w) ≡ s

abbrev pub KeepsBoard : Type 0
KeepsBoard = (s : State) (gs : GuestsNow) → board_at (state_over s gs).functions ≡ board_at s.functions

abbrev pub KeepsRouting : Type 0
KeepsRouting = OverBoards (λ s gs. routing (state_over s gs).functions ≡ routing s.functions)

abbrev pub KeepsBridges : Type 0
KeepsBridges =
    OverBoards (λ s gs. Each (λ f. IsTrue (is_bridge f.decl) → agreed_function (file_of gs) f ≡ f) s.functions)

abbrev pub KeepsNumbers : Type 0
KeepsNumbers = OverBoards (λ s gs. HasNumbers (board_at s.functions) s.functions
    → HasNumbers (board_at s.functions) (state_over s gs).functions)

-- the function with its current cells
abbrev pub KeepsReach : Type 0
KeepsReach = OverBoards (λ s gs. (at : BusAddress)
    → reached (state_over s gs).functions at ≡ option_map (agreed_function (file_of gs)) (reached s.functions at))

abbrev pub KeepsAddresses : Type 0
KeepsAddresses = OverBoards (λ s gs. (p : Path) → current_bdf (state_over s gs).functions p ≡ current_bdf s.functions p)

abbrev pub KeepsProblems : Type 0
KeepsProblems = OverBoards (λ s gs. problems (state_over s gs).functions ≡ problems s.functions)

abbrev pub StaysInOrder : Type 0
StaysInOrder = OverBoards (λ s gs. IsInOrder s.functions → IsInOrder (state_over s gs).functions)
