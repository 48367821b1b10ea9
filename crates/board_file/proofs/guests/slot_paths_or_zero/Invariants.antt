use Rattle.std.proofs.Common.{◌≡◌, ◌++◌, map, drop}
use Rattle.board_file.specs.PathTexts.{path_at}
use Rattle.board_file.proofs.guests.slot_paths_or_zero.Given as goal

abbrev pub invariant-texts : goal.invariant-texts
invariant-texts l = l.slots.items ++ map path_at (drop l.text-index l.texts) ≡ map path_at l.texts
