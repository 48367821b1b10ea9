use Rattle.std.{proofs.Common.{◌≡◌, Some, None, sym, ap, ◌∙◌}, specs.Prelude.{is_some, nat_lt}}
use Rattle.model_guests.specs.Slots.{raise_place}
use Rattle.bars.specs.Slots.{slot_at}
use Rattle.headers.specs.declared.place.Place.{Place}
use Rattle.accesses.specs.Accesses.{part_of}
use Rattle.monitor.proofs.{QuerySteps.{slot_past, slot_read}, RaisePlaces.region_reaches}
use Rattle.monitor.proofs.device.raise.has_byte_at.Goals as goal

pub returns-in-Some-Some : goal.returns-in-Some-Some
returns-in-Some-Some c = λ s p f held.
    let here : c.in-Some-Some.field-0.now ≡ Some c.in-Some-Some.region = let i = c.in-Some-Some.is in let j = c.in-Some-Some.field-0-is in cc in
    let at = ap (slot_at c.args.held.now.placed) (sym c.from.ensures)
    ∙ slot_read c.args.held.now.placed c.from.result c.in-Some-Some.ensures.lookup.0 c.in-Some-Some.ensures.lookup.1 here in
    ap (nat_lt c.args.off) c.size.ensures.value ∙ region_reaches s p f c.args.held.now c.in-Bar.reg c.args.off (Some c.in-Some-Some.region) held at
    ∙ ap (λ (q : Place). is_some (raise_place f (part_of q) c.args.off)) (sym c.in-Bar.is)

pub returns-in-Some-None : goal.returns-in-Some-None
returns-in-Some-None c = λ s p f held.
    let here : c.in-Some-None.field-0.now ≡ None = let i = c.in-Some-None.is in let j = c.in-Some-None.field-0-is in cc in
    let at = ap (slot_at c.args.held.now.placed) (sym c.from.ensures)
    ∙ slot_read c.args.held.now.placed c.from.result c.in-Some-None.ensures.lookup.0 c.in-Some-None.ensures.lookup.1 here in
    region_reaches s p f c.args.held.now c.in-Bar.reg c.args.off None held at
    ∙ ap (λ (q : Place). is_some (raise_place f (part_of q) c.args.off)) (sym c.in-Bar.is)

pub returns-in-None : goal.returns-in-None
returns-in-None c = λ s p f held.
    let at = ap (slot_at c.args.held.now.placed) (sym c.from.ensures) ∙ slot_past c.args.held.now.placed c.from.result c.in-None.ensures.lookup.0 in
    region_reaches s p f c.args.held.now c.in-Bar.reg c.args.off None held at
    ∙ ap (λ (q : Place). is_some (raise_place f (part_of q) c.args.off)) (sym c.in-Bar.is)
