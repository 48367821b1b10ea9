use Rattle.std.proofs.{Common.arith, lemmas.List.drop_all}
use Rattle.window_packing.proofs.SetUpWrites.{plan_written}
use Rattle.window_packing.proofs.programming.program.Goals as goal

pub returns : goal.returns
returns c = grind (arith, plan_written, drop_all)
