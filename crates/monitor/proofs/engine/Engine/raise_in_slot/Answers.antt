use Rattle.std.proofs.Common.{◌∙◌, false, refl, sym, arith}
use Rattle.model_guests.specs.Accesses.{raises}
use Rattle.monitor.proofs.{Machines.{accessed, untouched}, RaiseSteps.{raise_of, no_place, nothing_raised, raise_done, raise_refused, raise_slot_refused, raise_written}, Reached.endpoint_held, Calls.{guest_in, inside_guests}, Steps.slot_lent, Savable.after_event_sound}
use Rattle.monitor.proofs.engine.Engine.raise_in_slot.Goals as goal

pub index-requires : goal.index-requires
index-requires g c = omega (arith, inside_guests c.self.invariant.1 c.self.view_is c.args.guest c.requires)

pub returns-in-Err-clause-reply : goal.returns-in-Err-clause-reply
returns-in-Err-clause-reply g c =
    let at = guest_in c.self.invariant.1 c.self.view_is c.args.guest c.requires c.index.ensures in
    let r = raise_of c.args.slot c.args.place c.args.off c.args.mask in
    raise_refused at r (raise_slot_refused at c.deref.ensures.value r c.in-Err.ensures.refused)

pub returns-in-Err-clause-after : goal.returns-in-Err-clause-after
returns-in-Err-clause-after g c =
    let at = guest_in c.self.invariant.1 c.self.view_is c.args.guest c.requires c.index.ensures in
    let r = raise_of c.args.slot c.args.place c.args.off c.args.mask in
    untouched c.args.self.now c.args.guest _ _ (nothing_raised at r (raise_slot_refused at c.deref.ensures.value r c.in-Err.ensures.refused)) refl

pub returns-then-not-has_byte_at-clause-reply : goal.returns-then-not-has_byte_at-clause-reply
returns-then-not-has_byte_at-clause-reply g c =
    let at = guest_in c.self.invariant.1 c.self.view_is c.args.guest c.requires c.index.ensures in
    let slot = slot_lent at c.deref.ensures.value c.in-Ok.ensures.there.there in
    raise_refused at (raise_of c.args.slot c.args.place c.args.off c.args.mask)
    (no_place at slot c.in-Ok.ensures.there.low c.args.place c.args.off c.args.mask (λ s p f held. sym c.if-not-has_byte_at.true ∙ c.has_byte_at.ensures s p f held))

pub returns-then-not-has_byte_at-clause-after : goal.returns-then-not-has_byte_at-clause-after
returns-then-not-has_byte_at-clause-after g c =
    let at = guest_in c.self.invariant.1 c.self.view_is c.args.guest c.requires c.index.ensures in
    let slot = slot_lent at c.deref.ensures.value c.in-Ok.ensures.there.there in
    untouched c.args.self.now c.args.guest _ _ (nothing_raised at (raise_of c.args.slot c.args.place c.args.off c.args.mask)
    (no_place at slot c.in-Ok.ensures.there.low c.args.place c.args.off c.args.mask (λ s p f held. sym c.if-not-has_byte_at.true ∙ c.has_byte_at.ensures s p f held))) refl

pub raise_if_uncopied-requires : goal.raise_if_uncopied-requires
raise_if_uncopied-requires g c =
    let at = guest_in c.self.invariant.1 c.self.view_is c.args.guest c.requires c.index.ensures in
    endpoint_held at (slot_lent at c.deref.ensures.value c.in-Ok.ensures.there.there)

pub invariant_of-self : goal.invariant_of-self
invariant_of-self g c =
    let at = guest_in c.self.invariant.1 c.self.view_is c.args.guest c.requires c.index.ensures in
    let slot = slot_lent at c.deref.ensures.value c.in-Ok.ensures.there.there in
    let left = raise_written at slot c.in-Ok.ensures.there.low c.args.place c.args.off c.args.mask (λ s p f held. sym c.if-not-has_byte_at.false ∙ c.has_byte_at.ensures s p f held) c.raise_if_uncopied.ensures in
    (g.met.R.Route.by_routing c.self.inside.route c.self.inside.host c.raise_if_uncopied.new.host left.routes c.self.invariant.0, after_event_sound c.self.invariant.1 c.self.view_is c.args.guest c.requires (raises (raise_of c.args.slot c.args.place c.args.off c.args.mask)) left)

pub returns-clause-reply : goal.returns-clause-reply
returns-clause-reply g c =
    let at = guest_in c.self.invariant.1 c.self.view_is c.args.guest c.requires c.index.ensures in
    let slot = slot_lent at c.deref.ensures.value c.in-Ok.ensures.there.there in
    raise_done at slot c.in-Ok.ensures.there.low c.args.place c.args.off c.args.mask (λ s p f held. sym c.if-not-has_byte_at.false ∙ c.has_byte_at.ensures s p f held)

pub returns-clause-after : goal.returns-clause-after
returns-clause-after g c =
    let at = guest_in c.self.invariant.1 c.self.view_is c.args.guest c.requires c.index.ensures in
    let slot = slot_lent at c.deref.ensures.value c.in-Ok.ensures.there.there in
    accessed c.self.invariant.1 c.self.view_is c.args.guest {t = false} {u = false}
    (raise_written at slot c.in-Ok.ensures.there.low c.args.place c.args.off c.args.mask (λ s p f held. sym c.if-not-has_byte_at.false ∙ c.has_byte_at.ensures s p f held) c.raise_if_uncopied.ensures) refl refl
