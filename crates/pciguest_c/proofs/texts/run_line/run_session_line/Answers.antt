-- A longer text is written where the line asks for one.
use Rattle.std.proofs.Common.{arith}
use Rattle.pciguest_c.proofs.LongTexts.{longer_told, otherwise}
use Rattle.pciguest_c.proofs.texts.run_line.run_session_line.Goals as goal

pub returns-in-Ok-Some : goal.returns-in-Ok-Some
returns-in-Ok-Some c = grind (arith, longer_told, otherwise)
