use Rattle.model_set_up.proofs.Packing.{flat_need_on_bus}
use Rattle.model_set_up.proofs.flat_need.Goals as goal

pub returns : goal.returns
returns c = flat_need_on_bus
