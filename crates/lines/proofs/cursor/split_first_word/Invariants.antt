use Rattle.std.proofs.Common.{◌≡◌, length}
use Rattle.model_guests.specs.Text.{words}
use Rattle.lines.proofs.cursor.split_first_word.Given as goal

abbrev pub invariant-loop-piece : goal.invariant-loop-piece
invariant-loop-piece l = words l.rest ≡ words l.text

abbrev pub decreases-loop-piece : goal.decreases-loop-piece
decreases-loop-piece l = length l.rest
