use Rattle.model_findings.proofs.Lacks.{lacks_are_real, issues_are_real_and_complete, ready_decides}
use Rattle.model_findings.proofs.issues_are_real_and_complete.Goals as goal

pub returns : goal.returns
returns c = record { real = lacks_are_real; decide = issues_are_real_and_complete; ready = ready_decides }
