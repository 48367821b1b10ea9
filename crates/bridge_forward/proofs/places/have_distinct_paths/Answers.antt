use Rattle.std.proofs.{Common.arith, lemmas.List.take_rest}
use Rattle.bridge_forward.proofs.Halving.{apart_from_here, not_apart_here}
use Rattle.bridge_forward.proofs.places.have_distinct_paths.Goals as goal

pub returns-then-has_path : goal.returns-then-has_path
returns-then-has_path g c = grind (arith, take_rest, not_apart_here)

pub loop-i-preserved : goal.loop-i-preserved
loop-i-preserved g c = grind (arith, take_rest, apart_from_here)
