use Rattle.model_handoff.proofs.Examples.{worked_handoff_examples}
use Rattle.model_handoff.proofs.worked_handoff_examples.Goals as goal

pub returns : goal.returns
returns c = worked_handoff_examples
