use Rattle.std.proofs.Common.{arith}
use Rattle.lines.proofs.Tables.{digit_at, digit_below, no_digit_below}
use Rattle.lines.proofs.numbers.digit_value.Goals as goal

pub returns-then-digit-base : goal.returns-then-digit-base
returns-then-digit-base c = grind (arith, digit_at, digit_below)

pub returns-else-digit-base : goal.returns-else-digit-base
returns-else-digit-base c = grind (arith, digit_at, no_digit_below)
