use Rattle.std.proofs.Common.{◌∙◌, ◌==◌, ap, not, rules}
use Rattle.monitor.{specs.Counts.counted_nth, proofs.Exchanges.{has_held, has_left}}
use Rattle.monitor.proofs.slots.moving.move_and_reset.Goals as goal

pub replace_guest_slot-requires : goal.replace_guest_slot-requires
replace_guest_slot-requires c = has_held c.requires.holds

pub replace_guest_slot-empty-requires : goal.replace_guest_slot-empty-requires
replace_guest_slot-empty-requires c = has_left c.replace_guest_slot.ensures.exchanged c.requires.has

pub returns-clause-over : goal.returns-clause-over
returns-clause-over c = search rules

pub returns-clause-counts : goal.returns-clause-counts
returns-clause-counts c =
    c.replace_guest_slot-empty.ensures.counts ∙ ap (counted_nth c.args.to (not (c.args.to == c.args.from))) c.replace_guest_slot.ensures.counts
