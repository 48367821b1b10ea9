use Rattle.std.proofs.Common.{◌∙◌, sym, arith}
use Rattle.images.specs.Faults.{number_of}
use Rattle.monitor.proofs.SavedImages.{slots_end, slots_go_on}
use Rattle.monitor.proofs.saved.save.check_bytes_are_slots.Goals as goal

pub returns-in_err-bytes-clause-refused : goal.returns-in_err-bytes-clause-refused
returns-in_err-bytes-clause-refused c =
    let e = sym c.loop-slot.invariant ∙ slots_end c.args.host.now.state.functions c.in-Some.slot.now c.loop-slot.left.now c.in-Some.rest.now c.loop-slot.bytes.now (number_of c.in_err-bytes.field-0.0) (grind arith) c.in_err-bytes.ensures.refused in
    grind arith

pub loop-slot-preserved : goal.loop-slot-preserved
loop-slot-preserved c =
    slots_go_on c.args.host.now.state.functions c.in-Some.slot.now c.loop-slot.left.now c.in-Some.rest.now c.loop-slot.bytes.now c.in_ok-bytes.bytes.now (grind arith) c.in_ok-bytes.ensures.left ∙ c.loop-slot.invariant
