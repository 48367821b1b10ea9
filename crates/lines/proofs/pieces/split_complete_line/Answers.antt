use Rattle.std.proofs.Common.{sym, ◌∙◌, arith, take_all, length-drop}
use Rattle.lines.proofs.EndsInPieces.{no_end_none, no_end_to, ends_at}
use Rattle.lines.proofs.pieces.split_complete_line.Goals as goal

pub returns-in_err-end : goal.returns-in_err-end
returns-in_err-end c = rw c.from_residual.ensures (record { line = no_end_none c.args.text.now (sym (c.in_err-end.was) ∙ c.find_line_feed.ensures) })

pub returns : goal.returns
returns c = grind (arith, take_all, length-drop, no_end_to, ends_at)
