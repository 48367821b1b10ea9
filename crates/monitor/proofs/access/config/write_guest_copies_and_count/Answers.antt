use Rattle.std.{proofs.{Common.{◌≡◌, ◌∙◌, length, drop, ap, sym, rules}, lemmas.List.take_at}, specs.Prelude.slice_index_or}
use Rattle.monitor.{specs.declared.guest.Guest.Guest, proofs.{ConfigSteps.{guest_written, same_at}, Counts.set_counted}}
use Rattle.model_handoff.specs.Changes.{after_change}
use Rattle.monitor.proofs.access.config.write_guest_copies_and_count.Goals as goal

pub write_guest_copies-requires-clause-holds : goal.write_guest_copies-requires-clause-holds
write_guest_copies-requires-clause-holds c = search (rules, same_at)

pub returns-clause-written : goal.returns-clause-written
returns-clause-written c = λ holds.
    let same : c.index-guests-guest.result ≡ holds.guest = same_at c.args.guests.now c.args.guest holds.guest c.index-guests-guest.result holds.there c.index-guests-guest.is in
    let here = sym c.index-guests-guest.is ∙ same in
    let v = slice_index_or c.args.guests.now c.args.guest c.index-guests-guest.result in
    guest_written c.args.guests.now c.args.guest c.args.slot c.args.word c.args.enables c.args.value holds c.deref_mut.result.now c.write_guest_copies.new.slots c.write_guest_copies.result _
    (c.deref_mut.ensures.value ∙ ap (λ (g : Guest). g.slots.items) here) c.write_guest_copies.ensures (ap (λ (g : Guest). g.latch) here)
    (take_at c.write_guest_copies.new.slots (drop (length c.write_guest_copies.new.slots) v.slots.items) v.slots.len (c.write_guest_copies.auto.slots ∙ c.deref_mut.ensures.len))

pub returns-clause-counts : goal.returns-clause-counts
returns-clause-counts c =
    let holds = c.requires.holds in
    let same = same_at c.args.guests.now c.args.guest holds.guest c.index-guests-guest.result holds.there c.index-guests-guest.is in
    set_counted c.args.guests.now c.args.guest holds.guest _ c.args.changes holds.there
    (c.increment_if-guest.ensures ∙ ap (λ (g : Guest). after_change c.args.changes g.changed) (sym c.index-guests-guest.is ∙ same))
