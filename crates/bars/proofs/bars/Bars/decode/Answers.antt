use Rattle.std.proofs.Common.{arith}
use Rattle.bars.proofs.Decodes.{closed, opened_hit, outside_hit}
use Rattle.bars.proofs.bars.Bars.decode.Goals as goal

pub returns-then-is_outside_extents : goal.returns-then-is_outside_extents
returns-then-is_outside_extents c = grind (arith, outside_hit)

pub returns-then-command-command_bit-eq0 : goal.returns-then-command-command_bit-eq0
returns-then-command-command_bit-eq0 c = grind (arith, closed)

pub returns : goal.returns
returns c = grind (arith, opened_hit)
