use Rattle.std.proofs.{Common.arith, lemmas.Grind.common_steps}
use Rattle.findings.proofs.Blames.{forwarding}
use Rattle.findings.proofs.audit.routing_problems.Goals as goal

pub returns : goal.returns
returns c = grind (arith, common_steps, forwarding)
