use Rattle.model_findings.proofs.Usable.{ready_board_is_reachable, ready_is_found}
use Rattle.model_findings.proofs.ready_board_is_reachable.Goals as goal

pub returns : goal.returns
returns c = record { regions = ready_board_is_reachable; functions = ready_is_found }
