use Rattle.std.proofs.Common.{◌≡◌, ◌+◌, ◌++◌, drop, length}
use Rattle.board_file.proofs.path.places.path_unless_empty.Given as goal

abbrev pub invariant-rest : goal.invariant-rest
invariant-rest l = (length l.path ≡ 1 + l.part-index) × (l.path ++ drop l.part-index l.rest ≡ l.fn.parts)
