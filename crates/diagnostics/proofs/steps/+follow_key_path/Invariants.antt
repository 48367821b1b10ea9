use Rattle.std.proofs.Common.{length}
use Rattle.diagnostics.proofs.steps.+follow_key_path.Given as goal

abbrev pub decreases-follow_key_path : goal.decreases-follow_key_path
decreases-follow_key_path l = length l.way.now
