use Rattle.std.{proofs.Common.{◌≡◌, ◌++◌, map, drop, IsTrue}, specs.List.list_all}
use Rattle.model_board.specs.Lawful.{HasLawfulDecls}
use Rattle.board_file.specs.{Functions.bridge_row, Judged.is_lawful_bridge}
use Rattle.board_file.proofs.board.add_bridge_decls.Given as goal

abbrev pub invariant-entries : goal.invariant-entries
invariant-entries l =
    IsTrue (list_all is_lawful_bridge (drop l.entry-index l.entries))
    × (l.decls.items ++ map bridge_row (drop l.entry-index l.entries) ≡ l.initial.decls.items ++ map bridge_row l.entries)
    × HasLawfulDecls l.decls.items
