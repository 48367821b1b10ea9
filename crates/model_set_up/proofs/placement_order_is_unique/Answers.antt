use Rattle.model_set_up.proofs.ItemOrder.{one_order, order_is_sorted}
use Rattle.model_set_up.proofs.placement_order_is_unique.Goals as goal

pub returns : goal.returns
returns c = record { sorted = order_is_sorted; only = one_order }
