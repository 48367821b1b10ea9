use Rattle.model_images.proofs.Steps.{loads_by_steps}
use Rattle.model_images.proofs.loaded_states_are_reachable.Goals as goal

pub returns : goal.returns
returns c = loads_by_steps
