use Rattle.model_lines.proofs.Ports.{ports_by_latch}
use Rattle.model_lines.proofs.port_explanations_are_true.Goals as goal

pub returns : goal.returns
returns c = ports_by_latch
