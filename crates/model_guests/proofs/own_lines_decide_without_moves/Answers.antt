use Rattle.model_guests.proofs.OwnLines.{own_lines_alone, isolated_by_own_lines, two_worlds_by_own_lines}
use Rattle.model_guests.proofs.own_lines_decide_without_moves.Goals as goal

pub returns : goal.returns
returns c = record { inputs = own_lines_alone; isolated = isolated_by_own_lines; two_worlds = two_worlds_by_own_lines }
