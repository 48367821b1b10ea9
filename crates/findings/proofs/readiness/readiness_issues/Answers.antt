use Rattle.std.proofs.{Common.arith, lemmas.Grind.common_steps}
use Rattle.findings.proofs.{Blames.prefetching, Sorts.{all_open, all_closed}}
use Rattle.findings.proofs.readiness.readiness_issues.Goals as goal

pub returns : goal.returns
returns c = grind (arith, common_steps, prefetching, all_open, all_closed)
