use Rattle.std.proofs.Common.{length}
use Rattle.paths.proofs.path.+compare.Given as goal

abbrev pub decreases-compare : goal.decreases-compare
decreases-compare l = length l.xs.now
