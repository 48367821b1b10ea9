use Rattle.model_lines.proofs.Ways.{bdf_explanations_are_true}
use Rattle.model_lines.proofs.bdf_explanations_are_true.Goals as goal

pub returns : goal.returns
returns c = bdf_explanations_are_true
