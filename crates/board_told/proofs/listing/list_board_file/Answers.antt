use Rattle.std.proofs.Common.{arith}
use Rattle.board_told.proofs.listing.list_board_file.Goals as goal

pub returns-clause-report : goal.returns-clause-report
returns-clause-report c = grind arith
