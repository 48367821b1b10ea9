use Rattle.model_images.proofs.{Loading.{keeps_what_was_saved, loaded_holds, restarted_holds, holds_as_saved}, Requests.answers_as_saved}
use Rattle.model_images.proofs.loaded_guest_equals_saved.Goals as goal

pub returns : goal.returns
returns c = search (keeps_what_was_saved, loaded_holds, restarted_holds, holds_as_saved, answers_as_saved)
