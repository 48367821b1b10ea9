use Rattle.std.{proofs.Common.{◌≡◌, ◌++◌, map}, specs.List.flat_map}
use Rattle.toml.specs.View.{members_view}
use Rattle.board_file.specs.{KeyProblems.{of_member, keys_in}, Problems.found_of}
use Rattle.board_file.proofs.document.key_problems.push_unknown_key_problems.Given as goal

abbrev pub invariant-members : goal.invariant-members
invariant-members l =
    (goal.iterator-members).can_next l.key-iterator ×
    (goal.iterator-members).is_finite l.key-iterator ×
    (map found_of l.problems.items ++ flat_map (of_member l.entry l.level) (keys_in (members_view l.key-iterator))
    ≡ map found_of l.fn.problems.items ++ flat_map (of_member l.entry l.level) (keys_in (members_view l.table.entries)))
