use Rattle.model_findings.proofs.SetUpReady.{set_up_leaves_board_ready, ready_as_set_up}
use Rattle.model_findings.proofs.set_up_leaves_board_ready.Goals as goal

pub returns : goal.returns
returns c = record { set_up = set_up_leaves_board_ready; later = ready_as_set_up }
