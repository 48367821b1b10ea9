use Rattle.model_findings.proofs.ReadyExamples.{ready_examples}
use Rattle.model_findings.proofs.worked_readiness_examples.Goals as goal

pub returns : goal.returns
returns c = ready_examples
