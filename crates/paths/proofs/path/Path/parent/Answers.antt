use Rattle.std.proofs.Common.{◌∙◌, ap, arith}
use Rattle.model_board.specs.Paths.{parent}
use Rattle.paths.proofs.Paths.{take-parent, length-parent}
use Rattle.paths.proofs.path.Path.parent.Goals as goal

pub returns-clause-value : goal.returns-clause-value
returns-clause-value c = take-parent c.parts-parts.result.now ∙ ap parent c.parts-parts.ensures.value

pub returns-clause-short : goal.returns-clause-short
returns-clause-short c = grind (arith, take-parent, length-parent)
