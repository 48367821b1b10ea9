use Rattle.std.{proofs.Common.{◌≡◌, ◌++◌, drop}, specs.List.filter_map}
use Rattle.toml.specs.{Data.as_str, View.items_view}
use Rattle.board_file.specs.Schema.{list_of}
use Rattle.board_file.proofs.document.reading.paths_skipping_non_strings.Given as goal

abbrev pub invariant-items : goal.invariant-items
invariant-items l =
    l.texts.items ++ filter_map as_str (list_of (items_view (drop l.item-index l.item-items)))
    ≡ filter_map as_str (list_of (items_view l.item-items))
