-- A board that is set up is in order.
use Rattle.std.proofs.Common.{sym, subst}
use Rattle.model_board.specs.{State.State, Routing.routing}
use Rattle.model_findings.{specs.Orderly.{IsOrderly, IsStateOfBoard}, proofs.SetUpPasses.set_up_orderly}
use Rattle.window_packing.specs.Readies.{ReadyBoard, board_below, IsReady}

pub ready_state : (r : ReadyBoard) → IsReady r → IsStateOfBoard r.host.state.functions
ready_state r ready = record { places = ready.placeable.places; declarations = ready.placeable.declarations }

pub ready_orderly : (r : ReadyBoard) → IsReady r → IsOrderly (routing r.host.state.functions)
ready_orderly r ready =
    subst (λ (s : State). IsOrderly (routing s.functions)) (sym ready.registers)
    (set_up_orderly (board_below r.host) r.host.apertures ready.placeable)
