use Rattle.std.proofs.Common.{length}
use Rattle.paths.proofs.path.+is_ancestor_of.Given as goal

abbrev pub decreases-is_ancestor_of : goal.decreases-is_ancestor_of
decreases-is_ancestor_of l = length l.xs.now
