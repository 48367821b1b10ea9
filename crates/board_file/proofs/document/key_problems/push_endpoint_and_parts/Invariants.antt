use Rattle.std.{proofs.Common.{◌≡◌, ◌++◌, drop}, specs.List.flat_map}
use Rattle.board_file.specs.KeyProblems.{tables_in}
use Rattle.board_file.proofs.document.key_problems.push_endpoint_and_parts.Given as goal

abbrev pub invariant-parts : goal.invariant-parts
invariant-parts l =
    l.tables.items ++ flat_map (tables_in l.index l.endpoint) (drop l.part-index l.part-items)
    ≡ l.initial.tables.items ++ flat_map (tables_in l.index l.endpoint) l.part-items
