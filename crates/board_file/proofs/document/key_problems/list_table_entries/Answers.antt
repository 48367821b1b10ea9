use Rattle.std.proofs.{Common.arith, lemmas.Grind.common_steps}
use Rattle.board_file.proofs.Walks.{range_more}
use Rattle.board_file.proofs.document.key_problems.list_table_entries.Goals as goal

pub bridges-preserved : goal.bridges-preserved
bridges-preserved c = grind (arith, common_steps, range_more)

pub guests-preserved : goal.guests-preserved
guests-preserved c = grind (arith, common_steps, range_more)
