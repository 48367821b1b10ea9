use Rattle.std.proofs.{Common.arith, lemmas.Grind.common_steps}
use Rattle.board_file.proofs.Walks.{range_more}
use Rattle.board_file.proofs.document.key_problems.push_part_entries.Goals as goal

pub tables-preserved : goal.tables-preserved
tables-preserved c = grind (arith, common_steps, range_more)
