use Rattle.std.{proofs.Common.{◌≡◌, ◌++◌, map, drop}, specs.List.filter_map}
use Rattle.toml.specs.{Data.as_table, View.items_view}
use Rattle.board_file.specs.Schema.{list_of}
use Rattle.board_file.proofs.document.reading.entries_skipping_non_tables.Given as goal

abbrev pub invariant-items : goal.invariant-items
invariant-items g l =
    l.entries.items ++ map g.E.FromTable.said (filter_map as_table (list_of (items_view (drop l.item-index l.item-items))))
    ≡ map g.E.FromTable.said (filter_map as_table (list_of (items_view l.item-items)))
