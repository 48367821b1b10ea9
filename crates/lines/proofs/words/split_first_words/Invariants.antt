use Rattle.std.proofs.Common.{◌≡◌, ◌≤◌, ◌++◌, map, length}
use Rattle.model_guests.specs.Text.{words}
use Rattle.lines.proofs.words.split_first_words.Given as goal

abbrev pub decreases-loop-piece : goal.decreases-loop-piece
decreases-loop-piece l = length l.rest

abbrev pub invariant-loop-piece : goal.invariant-loop-piece
invariant-loop-piece l = record {
  order : map (λ w. w.now) l.first.items ++ words l.rest ≡ words l.line;
  few : length l.first.items ≤ 7;
}
