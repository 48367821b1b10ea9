use Rattle.std.proofs.Common.{◌∙◌, refl, arith}
use Rattle.images.proofs.Puts.{next_of}
use Rattle.monitor.specs.ShownImages.{slot_image}
use Rattle.monitor.proofs.saved.save.put_slots_and_advance.Goals as goal

pub loop-slot-preserved : goal.loop-slot-preserved
loop-slot-preserved c =
    let f = slot_image c.args.host.now.state.functions in
    let s = next_of f c.in-Some.slot.now c.loop-slot.left.now c.in-Some.rest.now c.loop-slot.next c.put_slot_and_advance-next.result (f c.in-Some.slot.now) c.loop-slot.out c.put_slot_and_advance-next.new.out (grind arith)
    refl c.put_slot_and_advance-next.ensures.bytes c.put_slot_and_advance-next.ensures.end c.loop-slot.invariant.room in
    record { places = grind arith; room = s.room; end = s.end ∙ c.loop-slot.invariant.end; bytes = s.bytes ∙ c.loop-slot.invariant.bytes }
