use Rattle.std.proofs.Common.{arith}
use Rattle.model_board.proofs.PlacesLaw.{lawful_places_are_boards}
use Rattle.bridge_forward.proofs.decl.is_lawful_board.Goals as goal

pub returns : goal.returns
returns c = grind (arith, lawful_places_are_boards)
