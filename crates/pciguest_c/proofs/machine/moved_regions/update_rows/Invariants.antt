use Rattle.std.proofs.Common.{◌≡◌, ◌++◌, take, drop}
use Rattle.pciguest_c.specs.MovesTold.{places_from}
use Rattle.pciguest_c.proofs.machine.moved_regions.update_rows.Given as goal

abbrev pub invariant-loop-number : goal.invariant-loop-number
invariant-loop-number l =
    l.places ≡ places_from l.machine.world l.guest 0 (take l.number l.initial.places) ++ drop l.number l.initial.places
