use Rattle.std.proofs.{Common.arith, lemmas.Grind.common_steps}
use Rattle.diagnostics.proofs.Items.{other_lengths, from_item}
use Rattle.diagnostics.proofs.shapes.+compare.Goals as goal

pub items_have_same_shape-returns-then-len : goal.items_have_same_shape-returns-then-len
items_have_same_shape-returns-then-len t c = grind (arith, other_lengths)

pub items_have_same_shape-items-preserved : goal.items_have_same_shape-items-preserved
items_have_same_shape-items-preserved t c = grind (arith, from_item, common_steps)
