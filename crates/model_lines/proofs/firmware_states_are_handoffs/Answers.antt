use Rattle.model_lines.proofs.FirmwareLeaves.{access_leaves, lines_leave}
use Rattle.model_lines.proofs.firmware_states_are_handoffs.Goals as goal

pub returns : goal.returns
returns c = record { access = access_leaves; lines = lines_leave }
