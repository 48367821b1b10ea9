use Rattle.std.proofs.Common.{◌≡◌, ◌≤◌, drop, take, map, length, true}
use Rattle.diagnostics.specs.{LineNumbers.{line_of, first_line}, Marks.are_ordered_within}
use Rattle.diagnostics.proofs.line_numbers.line_numbers_of_starts.Given as goal

abbrev pub invariant-places : goal.invariant-places
invariant-places l = record {
  order : are_ordered_within l.from (length l.text) (drop l.place-index l.places) ≡ true;
  within : l.from ≤ length l.text;
  so_far : l.line ≡ line_of l.from l.text;
  lines : l.lines.items ≡ map (first_line l.text) (take l.place-index l.places);
}
