use Rattle.model_set_up.proofs.PlacedRegions.{placed_addresses_are_in_range}
use Rattle.model_set_up.proofs.placed_addresses_are_in_range.Goals as goal

pub returns : goal.returns
returns c = placed_addresses_are_in_range
