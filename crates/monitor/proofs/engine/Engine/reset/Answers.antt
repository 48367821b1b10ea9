use Rattle.std.proofs.Common.{◌≡◌, ◌∙◌, List, sym, subst, arith}
use Rattle.model_guests.specs.DeviceEvents.{resets}
use Rattle.model_handoff.specs.Changes.{after_on_machine}
use Rattle.monitor.{specs.{declared.guest.Guest.Guest, ByIndex.name_nth, Configs.HoldsAt, Counts.{counted_both, counts_of}, Moves.HasSlot}, proofs.{Calls.{guest_in, inside_guests}, ResetSteps.{device_refused, nothing_changed, reset_done, reset_left}, Machines.{both_one, grew, happens, is_counted, not_counted, refused_all}, TakingSteps.{fault_named, may_take}, Steps.{fault_lent, slot_lent}, Exchanges.{has_nth, holds_nth, over_lent}, Savable.after_action_sound}}
use Rattle.monitor.proofs.Ended.{Ends, ends}
use Rattle.monitor.proofs.engine.Engine.reset.Goals as goal

pub index-requires : goal.index-requires
index-requires g c = omega (arith, inside_guests c.self.invariant.1 c.self.view_is c.args.guest c.requires)

pub returns-in-Err-clause-reply : goal.returns-in-Err-clause-reply
returns-in-Err-clause-reply g c =
    let at = guest_in c.self.invariant.1 c.self.view_is c.args.guest c.requires c.index.ensures in
    device_refused at (resets c.args.slot) (fault_lent at c.args.slot c.deref.ensures.value c.in-Err.ensures.refused)

pub returns-in-Err-clause-after : goal.returns-in-Err-clause-after
returns-in-Err-clause-after g c =
    let at = guest_in c.self.invariant.1 c.self.view_is c.args.guest c.requires c.index.ensures in
    let now = c.args.self.now in
    let fault = fault_lent at c.args.slot c.deref.ensures.value c.in-Err.ensures.refused in
    refused_all c.args.self.now (happens now c.args.guest (resets c.args.slot))
    (nothing_changed at (resets c.args.slot) fault) (not_counted (name_nth now.world c.args.guest) (fault_named at c.args.slot fault))

pub move_and_reset-requires-clause-holds : goal.move_and_reset-requires-clause-holds
move_and_reset-requires-clause-holds g c =
    let at = guest_in c.self.invariant.1 c.self.view_is c.args.guest c.requires c.index.ensures in
    subst (λ (gs : List Guest). HoldsAt gs c.args.guest c.args.slot) (sym c.deref_mut.ensures.value) (holds_nth at (slot_lent at c.deref.ensures.value c.in-Ok.ensures.there.there))

pub move_and_reset-requires-clause-has : goal.move_and_reset-requires-clause-has
move_and_reset-requires-clause-has g c =
    let at = guest_in c.self.invariant.1 c.self.view_is c.args.guest c.requires c.index.ensures in
    subst (λ (gs : List Guest). HasSlot gs c.args.guest c.args.slot) (sym c.deref_mut.ensures.value) (has_nth at c.in-Ok.ensures.there.low)

pub returns-in-Ok-clause-reply : goal.returns-in-Ok-clause-reply
returns-in-Ok-clause-reply g c =
    let at = guest_in c.self.invariant.1 c.self.view_is c.args.guest c.requires c.index.ensures in
    reset_done at (slot_lent at c.deref.ensures.value c.in-Ok.ensures.there.there) c.in-Ok.ensures.there.low

reset : (g : _) (c : goal.After-self-in-Ok-1 g)
    → Ends c.self.inside c.move_and_reset.new.host c.move_and_reset.new.guests
    (λ m. m ≡ after_on_machine c.args.self.now (happens c.args.self.now c.args.guest (resets c.args.slot)))
reset g c =
    let at = guest_in c.self.invariant.1 c.self.view_is c.args.guest c.requires c.index.ensures in
    let slot = slot_lent at c.deref.ensures.value c.in-Ok.ensures.there.there in
    let event = happens c.args.self.now c.args.guest (resets c.args.slot) in
    ends c.self.inside c.deref_mut.ensures.value (c.move_and_reset.auto.guests ∙ c.deref_mut.ensures.len)
    (reset_left at slot c.in-Ok.ensures.there.low (over_lent c.deref_mut.ensures.value c.move_and_reset.ensures.over))
    (after_action_sound c.self.invariant.1 c.self.view_is event) (counted_both c.args.guest c.args.guest) c.move_and_reset.ensures.counts
    (λ left counts. grew c.self.invariant.1 c.self.view_is event c.args.guest c.requires left (counts ∙ both_one c.args.guest (counts_of c.self.inside.guests.items))
    (is_counted (name_nth c.args.self.now.world c.args.guest) (may_take at c.args.slot slot c.in-Ok.ensures.there.low)))

pub invariant_of-self : goal.invariant_of-self
invariant_of-self g c =
    (g.met.R.Route.by_routing c.self.inside.route c.self.inside.host c.move_and_reset.new.host (reset g c).routes c.self.invariant.0, (reset g c).sound)

pub returns-in-Ok-clause-after : goal.returns-in-Ok-clause-after
returns-in-Ok-clause-after g c = (reset g c).shown
