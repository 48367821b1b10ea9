use Rattle.model_images.proofs.{Loading.{others_after_load, names_after_load, paths_after_load, handoff_after_load}, BesideLoads.{board_after_load, board_beside_load, loads_alike}}
use Rattle.model_images.proofs.load_changes_one_guest.Goals as goal

pub returns : goal.returns
returns c = search (others_after_load, names_after_load, paths_after_load, handoff_after_load, board_beside_load, board_after_load, loads_alike)
