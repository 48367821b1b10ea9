use Rattle.model_set_up.proofs.LawfulPlacement.{pools_are_lawful, layout_is_lawful}
use Rattle.model_set_up.proofs.fitting_placement_is_lawful.Goals as goal

pub returns : goal.returns
returns c = record { each_pool = pools_are_lawful; whole = layout_is_lawful }
