use Rattle.std.proofs.Common.{rules}
use Rattle.monitor.proofs.FunctionsTold.{seat_next}
use Rattle.monitor.proofs.slots.assignment.+find_assignment.Goals as goal

pub returns-in-None : goal.returns-in-None
returns-in-None t c = search (rules, seat_next)
