use Rattle.std.proofs.{Common.{List, map, sym, ap, ◌++◌, ◌∙◌}, lemmas.Result.IfOk-equal}
use Rattle.model_guests.specs.Slots.{slot_at}
use Rattle.model_lines.specs.WhyGuests.{ClosedRegion}
use Rattle.bars.specs.Kinds.{named_space}
use Rattle.monitor.specs.OwnTold.{own_told}
use Rattle.board_told.{specs.GuestFindings.{lone_asked, closed_told}, proofs.ClosedSlots.slot_holds}
use Rattle.board_told.proofs.closed.add_slot_bars_if_disabled.Goals as goal

pub returns : goal.returns
returns c =
    IfOk-equal c.add_bars_with_address.result _ _ _ c.add_bars_with_address.ensures
    (ap (λ (cs : List ClosedRegion). map closed_told c.args.closed.now.items ++ cs)
    (slot_holds (named_space c.args.space) c.args.addr c.args.slot (own_told c.in-Some.own) (slot_at (lone_asked c.args.monitor.now.world c.args.guest).slots c.args.slot) c.in-Some.ensures (sym c.enables_space.ensures ∙ c.if-enables_space.false)))
