use Rattle.std.proofs.Common.{length}
use Rattle.monitor.proofs.slots.assignment.+find_assignment.Given as goal

abbrev pub decreases-find_assignment : goal.decreases-find_assignment
decreases-find_assignment l = length l.guests.now
