use Rattle.std.proofs.Common.{◌<◌, length, sym, ◌∙◌, arith}
use Rattle.bars.specs.{Kinds.named_space, Hits.hit_in}
use Rattle.monitor.proofs.Landed.{passed_empty, passed, landed, nowhere}
use Rattle.monitor.proofs.access.decode.decode_address.Goals as goal

pub returns-in-Some-decode-clause-landing : goal.returns-in-Some-decode-clause-landing
returns-in-Some-decode-clause-landing c = λ s qs fs are.
    let slots = c.args.slots.now in
    let n = c.loop-slot.slot in
    let within : n < length slots = omega (arith, c.loop-slot-test.true) in
    sym (c.loop-slot.invariant s qs fs are
    ∙ landed (named_space c.args.space) c.args.addr s qs fs slots are n within c.in-Some.held.now (hit_in c.in-Some-decode.region c.in-Some-decode.offset) c.in-Some.ensures.there c.in-Some-decode.ensures)

pub returns-in-Some-decode-clause-there : goal.returns-in-Some-decode-clause-there
returns-in-Some-decode-clause-there c = record { held = c.in-Some.held.now; there = c.in-Some.ensures.there; decodes = c.in-Some-decode.ensures }

pub loop-slot-preserved : goal.loop-slot-preserved
loop-slot-preserved c = grind (arith, passed, passed_empty)

pub returns-clause-landing : goal.returns-clause-landing
returns-clause-landing c = λ s qs fs are. sym (c.loop-slot.invariant s qs fs are ∙ nowhere (named_space c.args.space) c.args.addr s qs fs c.args.slots.now are c.loop-slot.slot (omega arith))
