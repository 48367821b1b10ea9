use Rattle.std.{proofs.Common.{◌≡◌, ◌++◌, map, drop}, specs.List.flat_map}
use Rattle.toml.specs.View.{table_view}
use Rattle.board_file.specs.{KeyProblems.of_entry, Problems.found_of}
use Rattle.board_file.proofs.document.key_problems.key_problems.Given as goal

abbrev pub invariant-tables : goal.invariant-tables
invariant-tables l =
    let wrong = of_entry l.fault (table_view l.source.document.now) in
    map found_of l.problems.items ++ flat_map wrong (drop l.entry-index l.entry-items) ≡ flat_map wrong l.entry-items
