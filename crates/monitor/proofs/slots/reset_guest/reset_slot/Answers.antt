use Rattle.std.proofs.Common.{◌∙◌, ap, sym, slice_get, rules}
use Rattle.monitor.{specs.{declared.guest.Guest.Guest, Moves.HandsOver}, proofs.{Steps.{kept_nth, slot_nth}, Exchanges.{before_is, has_left}, RestartSteps.{kept_none, kept_one}}}
use Rattle.monitor.proofs.slots.reset_guest.reset_slot.Goals as goal

pub replace_guest_slot-empty-requires : goal.replace_guest_slot-empty-requires
replace_guest_slot-empty-requires c = has_left c.replace_guest_slot.ensures.exchanged c.requires.has

pub returns-clause-kept : goal.returns-clause-kept
returns-clause-kept c = λ w names kept.
    let at = kept_nth kept c.requires.has.there in
    let left = c.in-Some.ensures.exchanged in
    let over : HandsOver c.args.host.now c.args.guests.now c.args.guest c.args.slot c.args.guest c.args.slot c.reset_except_routing_nth.new.self c.replace_guest_slot-empty.new.guests = search rules in
    let there = ap (λ (k : Guest). slice_get k.slots.items c.args.slot) (sym (before_is at left)) ∙ left.had in
    kept_one at (slot_nth at there) c.requires.low over

pub returns-clause-still : goal.returns-clause-still
returns-clause-still c = λ i n has. has_left c.replace_guest_slot-empty.ensures.exchanged (has_left c.replace_guest_slot.ensures.exchanged has)

pub returns-clause-counts : goal.returns-clause-counts
returns-clause-counts c = c.replace_guest_slot-empty.ensures.counts ∙ c.replace_guest_slot.ensures.counts

pub returns-in_default-clause-kept : goal.returns-in_default-clause-kept
returns-in_default-clause-kept c = λ w names kept. kept_none (kept_nth kept c.requires.has.there) c.in_default.ensures.exchanged

pub returns-in_default-clause-still : goal.returns-in_default-clause-still
returns-in_default-clause-still c = λ i n has. has_left c.replace_guest_slot.ensures.exchanged has
