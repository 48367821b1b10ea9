use Rattle.std.proofs.Common.{arith}
use Rattle.board_told.proofs.WholeTexts.{text_whole}
use Rattle.board_told.proofs.guest_why.finding_text.Goals as goal

pub returns : goal.returns
returns c = grind (arith, text_whole)
