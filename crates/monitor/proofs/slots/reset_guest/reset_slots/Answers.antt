use Rattle.std.proofs.Common.{◌+◌, ◌∙◌, refl, subst, sym, arith}
use Rattle.model_guests.specs.WorldNow.{WorldNow}
use Rattle.monitor.{specs.Keeping.IsKept, proofs.{Steps.kept_nth, RestartSteps.{ends, goes_on, none_restarted}}}
use Rattle.monitor.proofs.slots.reset_guest.reset_slots.Goals as goal

pub loop-slot-init : goal.loop-slot-init
loop-slot-init c = record {
  kept = λ w names kept. subst (λ (v : WorldNow). IsKept v c.args.host.now names c.args.guests.now) (sym (none_restarted (kept_nth kept c.requires.there))) kept;
  has = c.requires;
  counts = refl;
  low = omega arith;
}

pub reset_slot-requires-clause-has : goal.reset_slot-requires-clause-has
reset_slot-requires-clause-has c =
    let has = c.loop-slot.invariant.has in
    record { guest = has.guest; there = has.there; inside = omega (arith, has.inside) }

pub loop-slot-preserved : goal.loop-slot-preserved
loop-slot-preserved c = record {
  kept = λ w names kept.
      subst (λ (v : WorldNow). IsKept v c.reset_slot.new.host names c.reset_slot.new.guests) (goes_on (kept_nth kept c.requires.there) c.loop-slot.slot (c.loop-slot.slot + 1) refl)
      (c.reset_slot.ensures.kept _ names (c.loop-slot.invariant.kept w names kept));
  has = c.reset_slot.ensures.still c.args.guest 31 c.loop-slot.invariant.has;
  counts = c.reset_slot.ensures.counts ∙ c.loop-slot.invariant.counts;
  low = omega arith;
}

pub returns-clause-kept : goal.returns-clause-kept
returns-clause-kept c = λ w names kept.
    subst (λ (v : WorldNow). IsKept v c.loop-slot.host names c.loop-slot.guests) (ends (kept_nth kept c.requires.there) c.loop-slot.slot (omega arith)) (c.loop-slot.invariant.kept w names kept)
