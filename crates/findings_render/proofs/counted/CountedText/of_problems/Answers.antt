use Rattle.std.proofs.Common.{arith}
use Rattle.findings_render.proofs.Chains.{whole_text}
use Rattle.findings_render.proofs.counted.CountedText.of_problems.Goals as goal

pub returns-clause-text : goal.returns-clause-text
returns-clause-text c = grind (arith, whole_text)
