use Rattle.model_images.proofs.Savable.{lawful_guest_has_encoding}
use Rattle.model_images.proofs.lawful_guest_has_encoding.Goals as goal

pub returns : goal.returns
returns c = lawful_guest_has_encoding
