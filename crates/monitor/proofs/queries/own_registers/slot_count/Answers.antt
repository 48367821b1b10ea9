use Rattle.std.proofs.Common.{◌≡◌, length, arith}
use Rattle.monitor.{specs.ByIndex.{guest_nth, lone_nth}, proofs.Landed.same_count}
use Rattle.monitor.proofs.queries.own_registers.slot_count.Goals as goal

pub returns : goal.returns
returns c = λ w i is.
    let same : length (lone_nth w i).slots ≡ length c.args.guest.now.slots.items = same_count w.handoff (guest_nth w i).paths (lone_nth w i).slots c.args.guest.now.slots.items is.slots in
    omega (arith, c.args.guest.now.slots.ok.0)
