use Rattle.std.proofs.{Common.arith, lemmas.Grind.common_steps}
use Rattle.paths.specs.PathLaws.{paths_tied}
use Rattle.board_file.proofs.path.marked.insert_if_new.Goals as goal

pub returns-in_ok-insert-clause-taken : goal.returns-in_ok-insert-clause-taken
returns-in_ok-insert-clause-taken c = λ p. grind (arith, common_steps, paths_tied, c.in_ok-insert.ensures.updates.0 p)
