use Rattle.std.proofs.Common.{rules}
use Rattle.board_file.proofs.functions.endpoint.push_number_problems.Goals as goal

pub returns : goal.returns
returns c = search rules depth 16
