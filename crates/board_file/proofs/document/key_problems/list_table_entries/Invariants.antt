use Rattle.std.{proofs.Common.{◌≡◌, ◌++◌, map, drop}, specs.List.{range_with_len, enumerate_from, flat_map}}
use Rattle.board_file.specs.KeyProblems.{with_endpoint}
use Rattle.board_file.specs.declared.entry.Entry.TheVariants as entry
use Rattle.board_file.proofs.document.key_problems.list_table_entries.Given as goal

abbrev pub invariant-endpoints : goal.invariant-endpoints
invariant-endpoints l =
    l.tables.items ++ flat_map with_endpoint (enumerate_from l.index (drop l.index l.file.endpoints))
    ≡ l.initial.tables.items ++ flat_map with_endpoint (enumerate_from 0 l.file.endpoints)

abbrev pub invariant-bridges : goal.invariant-bridges
invariant-bridges l = l.tables.items ≡ l.initial.tables.items ++ map entry.Bridge (range_with_len 0 l.index)

abbrev pub invariant-guests : goal.invariant-guests
invariant-guests l = l.tables.items ≡ l.initial.tables.items ++ map entry.Guest (range_with_len 0 l.index)
