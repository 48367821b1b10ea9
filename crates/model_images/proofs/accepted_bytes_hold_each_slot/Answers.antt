use Rattle.model_images.proofs.TakenBytes.{slots_are_taken, image_is_taken, accepted_is_taken}
use Rattle.model_images.proofs.accepted_bytes_hold_each_slot.Goals as goal

pub returns : goal.returns
returns c = record { slots = slots_are_taken; image = image_is_taken; accepted = accepted_is_taken }
