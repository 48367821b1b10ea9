use Rattle.std.proofs.Common.{◌≡◌, ◌++◌, map, drop}
use Rattle.lists.specs.Elements.{Each}
use Rattle.board_file.specs.{Functions.guest, Judged.IsShortGuest}
use Rattle.board_file.proofs.board.declare_guests.Given as goal

abbrev pub invariant-entries : goal.invariant-entries
invariant-entries l =
    Each IsShortGuest (drop l.entry-index l.entries)
    × (l.guests.items ++ map guest (drop l.entry-index l.entries) ≡ map guest l.entries)
