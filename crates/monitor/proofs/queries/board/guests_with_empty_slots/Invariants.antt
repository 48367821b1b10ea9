use Rattle.std.proofs.Common.{◌≡◌, map, take}
use Rattle.monitor.specs.{Beginnings.with_no_slots, Views.texts}
use Rattle.monitor.proofs.queries.board.guests_with_empty_slots.Given as goal

abbrev pub invariant-loop-name : goal.invariant-loop-name
invariant-loop-name l = l.guests.items ≡ map with_no_slots (take l.name-index (texts l.names))
