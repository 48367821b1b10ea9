use Rattle.std.proofs.Common.{arith}
use Rattle.findings.proofs.Walk.{spans_more}
use Rattle.findings.proofs.span.spans_of.Goals as goal

pub loop-index-preserved : goal.loop-index-preserved
loop-index-preserved c = grind (arith, spans_more)
