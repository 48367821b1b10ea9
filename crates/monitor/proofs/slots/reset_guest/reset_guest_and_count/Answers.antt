use Rattle.std.proofs.Common.{◌∙◌, List, true, ap, refl, subst, sym}
use Rattle.lists.proofs.Indices.{get_set}
use Rattle.model_guests.specs.WorldNow.{WorldNow}
use Rattle.model_handoff.specs.Changes.{after_change}
use Rattle.monitor.{specs.{declared.guest.Guest.Guest, Counts.counts_of, Keeping.IsKept, Moves.HasSlot}, proofs.{Counts.set_counted, Steps.kept_nth, RestartSteps.{both, kept_clear, latch_cleared}}}
use Rattle.monitor.proofs.slots.reset_guest.reset_guest_and_count.Goals as goal

pub reset_slots-requires : goal.reset_slots-requires
reset_slots-requires c =
    let has = c.requires in
    let k : Guest = record has.guest { latch = 0; changed = after_change true has.guest.changed } in
    subst (λ (gs : List Guest). HasSlot gs c.args.guest 31) (sym (c.clear_latch_and_count_change.ensures has.guest has.there))
    (record { guest = k; there = get_set c.args.guests.now c.args.guest has.guest k has.there; inside = has.inside })

pub returns-clause-kept : goal.returns-clause-kept
returns-clause-kept c = λ w names kept.
    let has = c.requires in
    let at = kept_nth kept has.there in
    subst (λ (v : WorldNow). IsKept v c.reset_slots.new.host names c.reset_slots.new.guests) (both at)
    (c.reset_slots.ensures.kept (latch_cleared c.args.guest w) names (kept_clear at true (c.clear_latch_and_count_change.ensures has.guest has.there)))

pub returns-clause-counts : goal.returns-clause-counts
returns-clause-counts c =
    let has = c.requires in
    let k : Guest = record has.guest { latch = 0; changed = after_change true has.guest.changed } in
    c.reset_slots.ensures.counts ∙ ap counts_of (c.clear_latch_and_count_change.ensures has.guest has.there)
    ∙ set_counted c.args.guests.now c.args.guest has.guest k true has.there refl
