use Rattle.std.proofs.Common.{arith}
use Rattle.findings.proofs.Walk.{few_contended}
use Rattle.findings.proofs.span.overlapping_agents.Goals as goal

pub returns : goal.returns
returns c = grind (arith, few_contended)
