use Rattle.std.proofs.Common.{◌+◌, ◌∙◌, refl, subst, sym, arith}
use Rattle.lists.proofs.Indices.{at_below}
use Rattle.model_guests.specs.WorldNow.{WorldNow}
use Rattle.monitor.{specs.Keeping.IsKept, proofs.{Steps.kept_nth, LoadedWorlds.{can_so_far, ends, goes_on, keeps_so_far, none_loaded, rest_so_far}}}
use Rattle.monitor.proofs.saved.load.load_slots.Goals as goal

pub loop-slot-init : goal.loop-slot-init
loop-slot-init c = record {
  so_far = λ k loadable.
      let at = kept_nth k.kept (at_below c.args.guests.now c.args.guest c.requires.there).1 in
      record {
        kept = subst (λ (v : WorldNow). IsKept v c.args.host.now k.names c.args.guests.now) (sym (none_loaded at c.args.bytes.now)) k.kept;
        rest = refl;
      };
  count = refl;
  counts = refl;
  low = omega arith;
}

pub load_slot_and_advance-left-requires-clause-can : goal.load_slot_and_advance-left-requires-clause-can
load_slot_and_advance-left-requires-clause-can c =
    let k = c.requires.can.0 in
    let at = kept_nth k.kept (at_below c.args.guests.now c.args.guest c.requires.there).1 in
    let far = c.loop-slot.invariant.so_far k c.requires.can.1 in
    (keeps_so_far far, can_so_far at c.args.bytes.now c.loop-slot.slot c.loop-slot.left.now far.rest c.requires.can.1 (omega arith))

pub loop-slot-preserved : goal.loop-slot-preserved
loop-slot-preserved c = record {
  so_far = λ k loadable.
      let at = kept_nth k.kept (at_below c.args.guests.now c.args.guest c.requires.there).1 in
      let far = c.loop-slot.invariant.so_far k loadable in
      let can = can_so_far at c.args.bytes.now c.loop-slot.slot c.loop-slot.left.now far.rest loadable (omega arith) in
      record {
        kept = subst (λ (v : WorldNow). IsKept v c.load_slot_and_advance-left.new.host k.names c.load_slot_and_advance-left.new.guests) (goes_on at c.args.bytes.now c.loop-slot.slot c.loop-slot.left.now far.rest (c.loop-slot.slot + 1) refl)
            (c.load_slot_and_advance-left.ensures.kept (keeps_so_far far) can);
        rest = rest_so_far at c.args.bytes.now c.loop-slot.slot c.loop-slot.left.now far.rest (c.loop-slot.slot + 1) refl c.load_slot_and_advance-left.result.now (c.load_slot_and_advance-left.ensures.behind (keeps_so_far far));
      };
  count = c.load_slot_and_advance-left.auto.guests ∙ c.loop-slot.invariant.count;
  counts = c.load_slot_and_advance-left.ensures.counts ∙ c.loop-slot.invariant.counts;
  low = omega arith;
}

pub returns-clause-kept : goal.returns-clause-kept
returns-clause-kept c = λ k loadable.
    let at = kept_nth k.kept (at_below c.args.guests.now c.args.guest c.requires.there).1 in
    subst (λ (v : WorldNow). IsKept v c.loop-slot.host k.names c.loop-slot.guests) (ends at c.args.bytes.now c.loop-slot.slot (omega arith)) (c.loop-slot.invariant.so_far k loadable).kept
