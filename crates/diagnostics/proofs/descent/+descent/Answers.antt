use Rattle.std.proofs.Common.{arith}
use Rattle.diagnostics.proofs.LongerWays.{on_ok-step}
use Rattle.diagnostics.proofs.descent.+descent.Goals as goal

pub push_steps_to_scalar_in_items-returns-then-is_some : goal.push_steps_to_scalar_in_items-returns-then-is_some
push_steps_to_scalar_in_items-returns-then-is_some t c = grind (arith, on_ok-step)

pub push_steps_to_scalar_in_table-returns-then-eq : goal.push_steps_to_scalar_in_table-returns-then-eq
push_steps_to_scalar_in_table-returns-then-eq t c = grind (arith, on_ok-step)
