use Rattle.std.{proofs.{Common.{List, Option, ap, drop, length, refl, slice_get, slice_set, sym, ◌∙◌, rules}, lemmas.List.take_at}, specs.Prelude.slice_index_or}
use Rattle.monitor.{specs.declared.guest.{Guest.Guest, AssignedFunction.AssignedFunction}, proofs.{ConfigSteps.same_at, Counts.set_counted}}
use Rattle.model_handoff.specs.Changes.{after_change}
use Rattle.monitor.proofs.slots.moving.replace_guest_slot.Goals as goal

pub replace_slot-requires : goal.replace_slot-requires
replace_slot-requires c = search (rules, same_at)

pub returns-clause-exchanged : goal.returns-clause-exchanged
returns-clause-exchanged c =
    let has = c.requires in
    let same = same_at c.args.guests.now c.args.guest has.guest c.index-guests-guest.result has.there c.index-guests-guest.is in
    let here = sym c.index-guests-guest.is ∙ same in
    let v = slice_index_or c.args.guests.now c.args.guest c.index-guests-guest.result in
    let items = c.deref_mut.ensures.value ∙ ap (λ (g : Guest). g.slots.items) here in
    let back = take_at c.replace_slot.new.slots (drop (length c.replace_slot.new.slots) v.slots.items) v.slots.len (c.replace_slot.auto.slots ∙ c.deref_mut.ensures.len) in
    record {
      before = has.guest;
      there = has.there;
      had = ap (λ (os : List (Option AssignedFunction)). slice_get os c.args.slot) (sym items) ∙ c.replace_slot.ensures.was;
      guest = _;
      after = refl;
      latch = ap (λ (g : Guest). g.latch) here;
      items = back ∙ c.replace_slot.ensures.slots ∙ ap (λ (os : List (Option AssignedFunction)). slice_set os c.args.slot c.args.held) items;
    }

pub returns-clause-counts : goal.returns-clause-counts
returns-clause-counts c =
    let has = c.requires in
    let same = same_at c.args.guests.now c.args.guest has.guest c.index-guests-guest.result has.there c.index-guests-guest.is in
    set_counted c.args.guests.now c.args.guest has.guest _ c.args.changes has.there
    (c.increment_if-guest.ensures ∙ ap (λ (g : Guest). after_change c.args.changes g.changed) (sym c.index-guests-guest.is ∙ same))
