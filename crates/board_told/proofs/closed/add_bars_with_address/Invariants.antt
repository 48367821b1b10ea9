use Rattle.std.proofs.Common.{◌≡◌, ◌++◌, map, drop}
use Rattle.bars.specs.{Kinds.named_space, Slots.bases_from}
use Rattle.board_told.specs.GuestFindings.{closed_at, closed_told}
use Rattle.board_told.proofs.closed.add_bars_with_address.Given as goal

abbrev pub invariant-loop-register : goal.invariant-loop-register
invariant-loop-register l =
    map closed_told l.closed.items ++ closed_at (named_space l.space) l.addr l.slot l.command (bases_from l.register (drop l.register l.regions))
    ≡ map closed_told l.initial.closed.items ++ closed_at (named_space l.space) l.addr l.slot l.command (bases_from 0 l.regions)
