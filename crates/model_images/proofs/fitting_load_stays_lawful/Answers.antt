use Rattle.model_images.proofs.Loading.{seated_after_load, lawful_after_load, shown_after_load}
use Rattle.model_images.proofs.fitting_load_stays_lawful.Goals as goal

pub returns : goal.returns
returns c = record { seated = seated_after_load; lawful = lawful_after_load; shown = shown_after_load }
