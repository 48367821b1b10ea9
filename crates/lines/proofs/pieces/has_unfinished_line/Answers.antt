use Rattle.std.proofs.Common.{◌∙◌, not, sym, ap}
use Rattle.lines.proofs.LongLines.{long_some, text_some, text_none}
use Rattle.lines.proofs.pieces.has_unfinished_line.Goals as goal

pub returns-then-long-clause-some : goal.returns-then-long-clause-some
returns-then-long-clause-some c = λ is before passed. long_some c.args.long before c.args.text.now c.if-long.true passed

pub returns-clause-some : goal.returns-clause-some
returns-clause-some c = λ is before passed. text_some before c.args.text.now (ap not (sym c.is_empty.ensures) ∙ is)

pub returns-clause-none : goal.returns-clause-none
returns-clause-none c = λ is before passed. text_none c.args.long before c.args.text.now (ap not (sym c.is_empty.ensures) ∙ is) c.if-long.false passed
