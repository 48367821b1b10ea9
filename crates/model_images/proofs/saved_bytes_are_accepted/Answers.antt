use Rattle.model_images.proofs.SavedWorlds.{can_be_saved_at_first, can_be_saved_along, takes_saved_guest, saves_what_was_taken, no_image_is_refused}
use Rattle.model_images.proofs.saved_bytes_are_accepted.Goals as goal

pub returns : goal.returns
returns c = search (can_be_saved_at_first, can_be_saved_along, takes_saved_guest, saves_what_was_taken, no_image_is_refused)
