use Rattle.model_set_up.proofs.Packing.{compact_items_never_overlap}
use Rattle.model_set_up.proofs.compact_items_never_overlap.Goals as goal

pub returns : goal.returns
returns c = compact_items_never_overlap
