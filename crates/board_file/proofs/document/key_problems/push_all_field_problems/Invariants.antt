use Rattle.std.{proofs.Common.{◌≡◌, ◌++◌, map, drop}, specs.List.flat_map}
use Rattle.toml.specs.View.{table_view}
use Rattle.board_file.specs.{KeyProblems.of_field, Problems.found_of, Schema.field_of}
use Rattle.board_file.proofs.document.key_problems.push_all_field_problems.Given as goal

abbrev pub invariant-fields : goal.invariant-fields
invariant-fields l =
    let wrong = of_field l.entry (table_view l.table) in
    map found_of l.problems.items ++ flat_map wrong (map field_of (drop l.field-index l.field-items))
    ≡ map found_of l.fn.problems.items ++ flat_map wrong (map field_of l.field-items)
