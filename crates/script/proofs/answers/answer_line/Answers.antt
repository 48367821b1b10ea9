use Rattle.std.proofs.Common.{◌++◌}
use Rattle.lines.proofs.Buffers.{passes}
use Rattle.script.proofs.LineAnswers.{long_done}
use Rattle.script.proofs.answers.answer_line.Goals as goal

pub returns-then-long-clause-after : goal.returns-then-long-clause-after
returns-then-long-clause-after c = λ before passed. long_done c.args.monitor.now (before ++ c.args.line.now) (passes c.args.long before c.args.line.now c.if-long.true passed)
