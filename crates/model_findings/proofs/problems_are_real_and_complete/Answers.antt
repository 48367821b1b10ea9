use Rattle.std.proofs.Common.{arith}
use Rattle.model_findings.proofs.{Found.numbering_decides, Problems.routing_decides, Witnesses.{problems_are_real, problems_are_real_and_complete}}
use Rattle.model_findings.proofs.problems_are_real_and_complete.Goals as goal

pub returns : goal.returns
returns c = grind (arith, problems_are_real, problems_are_real_and_complete, routing_decides, numbering_decides)
