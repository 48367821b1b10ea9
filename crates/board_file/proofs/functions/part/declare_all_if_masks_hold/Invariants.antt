use Rattle.std.{proofs.Common.{◌≡◌, ◌++◌, map, drop, IsTrue}, specs.List.list_all}
use Rattle.board_file.proofs.functions.part.declare_all_if_masks_hold.Given as goal

abbrev pub invariant-entries : goal.invariant-entries
invariant-entries g l =
    IsTrue (list_all g.P.PartEntry.is_declarable (drop l.entry-index l.entries))
    × (list_all g.P.PartEntry.holds (drop l.entry-index l.entries) ≡ list_all g.P.PartEntry.holds l.entries)
    × (l.declared.items ++ map g.P.PartEntry.declaration (drop l.entry-index l.entries) ≡ map g.P.PartEntry.declaration l.entries)
