use Rattle.board_file.proofs.RefusalLaws.{problems_break_checks}
use Rattle.board_file.proofs.laws.problems_break_checks.Goals as goal

pub returns : goal.returns
returns c = problems_break_checks
