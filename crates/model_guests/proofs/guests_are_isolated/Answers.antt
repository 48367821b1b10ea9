use Rattle.model_guests.proofs.Isolation.{isolated_over}
use Rattle.model_guests.proofs.guests_are_isolated.Goals as goal

pub returns : goal.returns
returns c = isolated_over
