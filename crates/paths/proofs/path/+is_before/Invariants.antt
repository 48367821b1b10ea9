use Rattle.std.proofs.Common.{length}
use Rattle.paths.proofs.path.+is_before.Given as goal

abbrev pub decreases-is_before : goal.decreases-is_before
decreases-is_before l = length l.xs.now
