use Rattle.model_images.proofs.Stops.{one_stop}
use Rattle.model_images.proofs.refusal_has_one_byte_offset.Goals as goal

pub returns : goal.returns
returns c = one_stop
