use Rattle.model_board.proofs.PlacesLaw.{lawful_places_are_boards}
use Rattle.model_board.proofs.lawful_places_form_a_board.Goals as goal

pub returns : goal.returns
returns c = lawful_places_are_boards
