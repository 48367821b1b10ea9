use Rattle.std.proofs.Common.{◌<◌, length, map, arith}
use Rattle.bars.specs.Kinds.{named_space}
use Rattle.board_told.{specs.GuestFindings.{lone_asked, closed_told}, proofs.ClosedSlots.step}
use Rattle.board_told.proofs.closed.collect_disabled_bars.Goals as goal

pub loop-slot-preserved : goal.loop-slot-preserved
loop-slot-preserved c =
    let slots = (lone_asked c.args.monitor.now.world c.args.guest).slots in
    let within : c.loop-slot.slot < length slots = omega arith in
    step (named_space c.args.space) c.args.addr slots c.loop-slot.slot within (map closed_told c.loop-slot.closed.items) _ _ c.loop-slot.invariant c.in_ok-add_slot_bars_if_disabled.ensures
