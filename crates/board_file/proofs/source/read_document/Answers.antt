use Rattle.std.proofs.Common.{arith}
use Rattle.board_file.proofs.source.read_document.Goals as goal

pub returns-clause-refused : goal.returns-clause-refused
returns-clause-refused c = grind arith
