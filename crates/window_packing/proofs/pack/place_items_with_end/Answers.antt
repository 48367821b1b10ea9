use Rattle.std.proofs.Common.{arith}
use Rattle.window_packing.proofs.SpotEnds.{end_from-past}
use Rattle.window_packing.proofs.pack.place_items_with_end.Goals as goal

pub returns-in-None : goal.returns-in-None
returns-in-None c = grind (arith, end_from-past)
