use Rattle.model_guests.proofs.{AgreedFiles.shows_file, KeptCopies.{copies_never_rise, file_of_seat}}
use Rattle.model_guests.proofs.board_holds_uncopied_bytes.Goals as goal

pub returns : goal.returns
returns c = record { shows = shows_file; copies = copies_never_rise; files = file_of_seat }
