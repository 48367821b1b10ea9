use Rattle.std.proofs.Common.{◌≡◌, ◌++◌, map, drop}
use Rattle.toml.specs.View.{table_view}
use Rattle.lists.specs.Elements.{Each}
use Rattle.board_refusal.specs.Telling.{problem_of, HasPlace}
use Rattle.board_refusal.proofs.placed_breach.locate_and_sort_by_line.Given as goal

abbrev pub invariant-problems : goal.invariant-problems
invariant-problems l = record {
  same : map problem_of l.all.items ++ drop l.problem-index l.problems ≡ l.problems;
  places : Each (HasPlace l.places.text.now (table_view l.places.document.now)) l.all.items;
}
