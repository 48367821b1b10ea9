use Rattle.model_guests.proofs.Isolation.{two_worlds_agree}
use Rattle.model_guests.proofs.two_worlds.Goals as goal

pub returns : goal.returns
returns c = two_worlds_agree
