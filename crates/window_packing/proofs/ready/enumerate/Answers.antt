use Rattle.std.proofs.Common.{arith}
use Rattle.window_packing.proofs.ready.enumerate.Goals as goal

pub returns-clause-found : goal.returns-clause-found
returns-clause-found c = grind arith
