use Rattle.std.proofs.{Common.arith, lemmas.List.drop_all}
use Rattle.model_set_up.proofs.Items.{unit_below}
use Rattle.window_packing.proofs.pack.largest_alignment.Goals as goal

pub items-init : goal.items-init
items-init c = (omega arith, omega (arith, unit_below c.args.unit c.args.items.now))

pub returns : goal.returns
returns c = grind (arith, drop_all)
