use Rattle.std.proofs.Common.{◌≡◌, ◌++◌}
use Rattle.board_file.specs.KeyProblems.{in_endpoint}
use Rattle.board_file.proofs.document.key_problems.push_part_entries.Given as goal

abbrev pub invariant-tables : goal.invariant-tables
invariant-tables l = l.tables.items ≡ l.initial.tables.items ++ in_endpoint l.index l.part l.number
