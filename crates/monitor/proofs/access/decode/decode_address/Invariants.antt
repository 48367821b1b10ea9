use Rattle.std.proofs.Common.{◌≡◌, List, Option, drop}
use Rattle.model_board.specs.{Paths.Path, State.State}
use Rattle.model_guests.specs.Slots.{Slots, landing_from}
use Rattle.bars.specs.Kinds.{named_space}
use Rattle.monitor.specs.Keeping.{AreSlots}
use Rattle.monitor.proofs.access.decode.decode_address.Given as goal

abbrev pub invariant-loop-slot : goal.invariant-loop-slot
invariant-loop-slot l = (s : State) (qs : List (Option Path)) (fs : Slots) → AreSlots s qs fs l.slots
    → landing_from 0 (named_space l.space) l.addr fs ≡ landing_from l.slot (named_space l.space) l.addr (drop l.slot fs)
