use Rattle.std.proofs.Common.{arith}
use Rattle.lines.proofs.Buffers.{passes, passes_rest, kept_none, kept_last}
use Rattle.lines.proofs.pending.Pending.keep_last_or_skip.Goals as goal

pub returns-then-long-clause-text : goal.returns-then-long-clause-text
returns-then-long-clause-text c = grind (arith, kept_none, passes)

pub returns-then-count-gt-LONGEST_LINE-clause-text : goal.returns-then-count-gt-LONGEST_LINE-clause-text
returns-then-count-gt-LONGEST_LINE-clause-text c = grind (arith, kept_none, passes_rest)

pub returns-else-count-gt-LONGEST_LINE-clause-text : goal.returns-else-count-gt-LONGEST_LINE-clause-text
returns-else-count-gt-LONGEST_LINE-clause-text c = grind (arith, kept_last)
