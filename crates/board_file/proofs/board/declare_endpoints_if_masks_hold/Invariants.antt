use Rattle.std.{proofs.Common.{◌≡◌, ◌++◌, map, drop, IsTrue}, specs.List.list_all}
use Rattle.model_board.specs.Lawful.{HasLawfulDecls}
use Rattle.board_file.specs.{Functions.endpoint_row, Endpoints.{is_declarable, masks_hold}}
use Rattle.board_file.proofs.board.declare_endpoints_if_masks_hold.Given as goal

abbrev pub invariant-entries : goal.invariant-entries
invariant-entries l =
    IsTrue (list_all is_declarable (drop l.entry-index l.entries))
    × (list_all masks_hold (drop l.entry-index l.entries) ≡ list_all masks_hold l.entries)
    × (l.decls.items ++ map endpoint_row (drop l.entry-index l.entries) ≡ map endpoint_row l.entries)
    × HasLawfulDecls l.decls.items
