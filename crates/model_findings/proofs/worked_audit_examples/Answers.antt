use Rattle.model_findings.proofs.AuditExamples.{worked_examples}
use Rattle.model_findings.proofs.worked_audit_examples.Goals as goal

pub returns : goal.returns
returns c = worked_examples
