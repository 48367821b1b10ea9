use Rattle.model_set_up.proofs.FoundBoards.{scan_finds_all_placement_needs}
use Rattle.model_set_up.proofs.scan_finds_all_placement_needs.Goals as goal

pub returns : goal.returns
returns c = scan_finds_all_placement_needs
