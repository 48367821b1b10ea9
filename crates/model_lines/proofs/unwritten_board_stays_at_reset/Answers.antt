use Rattle.model_lines.proofs.Written.{accesses_tell_written, lines_tell_written}
use Rattle.model_lines.proofs.unwritten_board_stays_at_reset.Goals as goal

pub returns : goal.returns
returns c = record { accesses = accesses_tell_written; lines = lines_tell_written }
