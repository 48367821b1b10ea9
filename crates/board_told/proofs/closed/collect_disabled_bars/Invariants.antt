use Rattle.std.proofs.Common.{◌≡◌, ◌++◌, map, drop}
use Rattle.model_lines.specs.WhyGuests.{closed_from}
use Rattle.bars.specs.Kinds.{named_space}
use Rattle.board_told.specs.GuestFindings.{lone_asked, closed_told}
use Rattle.board_told.proofs.closed.collect_disabled_bars.Given as goal

abbrev pub invariant-loop-slot : goal.invariant-loop-slot
invariant-loop-slot l =
    map closed_told l.closed.items ++ closed_from (named_space l.space) l.addr l.slot (drop l.slot (lone_asked l.monitor.world l.guest).slots)
    ≡ closed_from (named_space l.space) l.addr 0 (lone_asked l.monitor.world l.guest).slots
