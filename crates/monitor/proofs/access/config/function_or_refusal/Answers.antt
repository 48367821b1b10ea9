use Rattle.std.proofs.Common.{arith}
use Rattle.monitor.proofs.{Steps.slot_empty, Checks.low_slot}
use Rattle.monitor.proofs.access.config.function_or_refusal.Goals as goal

pub returns-in-None-clause-refused : goal.returns-in-None-clause-refused
returns-in-None-clause-refused c = grind (arith, low_slot, slot_empty)
