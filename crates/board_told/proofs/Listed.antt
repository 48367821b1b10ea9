-- A board that is set up, as it is reported.
use Rattle.std.{proofs.Common.{◌≡◌, refl, ap, ap₂, ◌∙◌, subst}, specs.Prelude.List}
use Rattle.model_board.specs.Lawful.{HasLawfulDecls}
use Rattle.model_set_up.specs.{FunctionTable.sized_table, SetUp.set_up_state, SetUpWrites.planned}
use Rattle.host_bridge.specs.HostState.{HostState}
use Rattle.window_packing.specs.Readies.{ReadyBoard, board_below, IsReady}
use Rattle.model_guests.specs.World.{Guest}
use Rattle.board_file.specs.Meaning.{world_in}
use Rattle.model_handoff.specs.FoundReport.{IsSetUpOf}

pub of_world : (h : HostState) (r : ReadyBoard) (gs : List Guest) → board_below r.host ≡ board_below h
    → r.host ≡ record h { state = set_up_state (board_below h) h.apertures }
    → IsReady r → IsSetUpOf (record { functions = r.table; plan = r.plan; guests = gs }) (world_in h gs)
of_world h r gs below host ready =
    let table = ready.table ∙ ap sized_table below in
    let plan = ready.plan ∙ ap₂ planned below (ap (λ k. k.apertures) host) in
    record { lawful = subst HasLawfulDecls below ready.placeable.declarations; found = rw (table, plan) refl }
