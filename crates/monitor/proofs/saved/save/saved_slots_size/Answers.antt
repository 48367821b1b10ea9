use Rattle.std.proofs.Common.{arith}
use Rattle.images.proofs.Lengths.{first_length}
use Rattle.monitor.specs.ShownImages.{slot_image}
use Rattle.monitor.proofs.saved.save.saved_slots_size.Goals as goal

pub loop-slot-preserved : goal.loop-slot-preserved
loop-slot-preserved c =
    let first = first_length (slot_image c.args.host.now.state.functions) c.in-Some.slot.now c.loop-slot.left.now c.in-Some.rest.now (grind arith) in
    grind arith
