use Rattle.model_images.proofs.Fitting.{fitting_at_first, fitting_after, fitting_along, saved_fits}
use Rattle.model_images.proofs.saved_state_fits_equal_guests.Goals as goal

pub returns : goal.returns
returns c = record { first = fitting_at_first; after = fitting_after; along = fitting_along; fits = saved_fits }
