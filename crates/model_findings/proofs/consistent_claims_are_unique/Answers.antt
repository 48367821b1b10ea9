use Rattle.model_findings.proofs.Claims.{consistent_claims_are_unique}
use Rattle.model_findings.proofs.consistent_claims_are_unique.Goals as goal

pub returns : goal.returns
returns c = consistent_claims_are_unique
