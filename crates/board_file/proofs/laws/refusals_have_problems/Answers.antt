use Rattle.board_file.proofs.RefusalLaws.{refusals_have_problems}
use Rattle.board_file.proofs.laws.refusals_have_problems.Goals as goal

pub returns : goal.returns
returns c = refusals_have_problems
