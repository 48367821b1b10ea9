use Rattle.model_findings.proofs.SetUpPasses.{set_up_passes_the_audit, routed_as_set_up}
use Rattle.model_findings.proofs.set_up_passes_the_audit.Goals as goal

pub returns : goal.returns
returns c = record { set_up = set_up_passes_the_audit; later = routed_as_set_up }
