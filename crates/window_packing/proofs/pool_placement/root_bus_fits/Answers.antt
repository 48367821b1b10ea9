use Rattle.std.proofs.{Common.arith, lemmas.List.nil_from_length}
use Rattle.window_packing.proofs.PackFits.{fits_empty}
use Rattle.window_packing.proofs.pool_placement.root_bus_fits.Goals as goal

pub returns-then-is_empty : goal.returns-then-is_empty
returns-then-is_empty c = grind (arith, nil_from_length, fits_empty)
