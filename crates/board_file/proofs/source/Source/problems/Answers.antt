use Rattle.std.proofs.Common.{rules}
use Rattle.board_file.specs.KeyProblems.{problems_of}
use Rattle.board_file.proofs.source.Source.problems.Goals as goal

pub returns-in-Key : goal.returns-in-Key
unfolding problems_of
returns-in-Key c = search rules

pub returns-in_default : goal.returns-in_default
unfolding problems_of
returns-in_default c = search rules
