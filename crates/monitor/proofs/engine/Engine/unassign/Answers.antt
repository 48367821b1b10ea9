use Rattle.std.proofs.Common.{◌≡◌, ◌∙◌, List, true, sym, subst, arith}
use Rattle.model_handoff.specs.{Actions.takes, Changes.after_on_machine}
use Rattle.monitor.{specs.{declared.guest.Guest.Guest, ByIndex.name_nth, Counts.counted_nth, Moves.HasSlot}, proofs.{Machines.{grew, is_counted, not_counted, refused_all}, TakingSteps.{fault_named, may_take, nothing_taken, take_done, take_left, take_refused}, Calls.{guest_in, inside_guests}, Exchanges.{exchange_lent, has_nth}, Steps.{fault_lent, slot_lent}, Savable.after_action_sound}}
use Rattle.monitor.proofs.Ended.{Ends, ends}
use Rattle.monitor.proofs.engine.Engine.unassign.Goals as goal

pub index-requires : goal.index-requires
index-requires g c = omega (arith, inside_guests c.self.invariant.1 c.self.view_is c.args.guest c.requires)

pub returns-in-Err-clause-reply : goal.returns-in-Err-clause-reply
returns-in-Err-clause-reply g c =
    let at = guest_in c.self.invariant.1 c.self.view_is c.args.guest c.requires c.index.ensures in
    take_refused at c.args.slot (fault_lent at c.args.slot c.deref.ensures.value c.in-Err.ensures.refused)

pub returns-in-Err-clause-after : goal.returns-in-Err-clause-after
returns-in-Err-clause-after g c =
    let at = guest_in c.self.invariant.1 c.self.view_is c.args.guest c.requires c.index.ensures in
    let now = c.args.self.now in
    let fault = fault_lent at c.args.slot c.deref.ensures.value c.in-Err.ensures.refused in
    refused_all c.args.self.now (takes (name_nth now.world c.args.guest) c.args.slot)
    (nothing_taken at c.args.slot fault) (not_counted (name_nth now.world c.args.guest) (fault_named at c.args.slot fault))

pub replace_guest_slot-taken-requires : goal.replace_guest_slot-taken-requires
replace_guest_slot-taken-requires g c =
    let at = guest_in c.self.invariant.1 c.self.view_is c.args.guest c.requires c.index.ensures in
    subst (λ (gs : List Guest). HasSlot gs c.args.guest c.args.slot) (sym c.deref_mut.ensures.value) (has_nth at c.in-Ok.ensures.there.low)

pub returns-clause-reply : goal.returns-clause-reply
returns-clause-reply g c =
    let at = guest_in c.self.invariant.1 c.self.view_is c.args.guest c.requires c.index.ensures in
    take_done at c.args.slot (slot_lent at c.deref.ensures.value c.in-Ok.ensures.there.there) c.in-Ok.ensures.there.low

taken : (g : _) (c : goal.After-self-1 g)
    → Ends c.self.inside c.reset_except_routing_nth.new.self c.replace_guest_slot-taken.new.guests
    (λ m. m ≡ after_on_machine c.args.self.now (takes (name_nth c.args.self.now.world c.args.guest) c.args.slot))
taken g c =
    let name = name_nth c.args.self.now.world c.args.guest in
    let at = guest_in c.self.invariant.1 c.self.view_is c.args.guest c.requires c.index.ensures in
    let slot = slot_lent at c.deref.ensures.value c.in-Ok.ensures.there.there in
    ends c.self.inside c.deref_mut.ensures.value (c.replace_guest_slot-taken.auto.guests ∙ c.deref_mut.ensures.len)
    (take_left at c.args.slot slot c.in-Ok.ensures.there.low (exchange_lent c.deref_mut.ensures.value c.replace_guest_slot-taken.ensures.exchanged) c.reset_except_routing_nth.ensures)
    (after_action_sound c.self.invariant.1 c.self.view_is (takes name c.args.slot)) (counted_nth c.args.guest true) c.replace_guest_slot-taken.ensures.counts
    (λ left counts. grew c.self.invariant.1 c.self.view_is (takes name c.args.slot) c.args.guest c.requires left counts
    (is_counted name (may_take at c.args.slot slot c.in-Ok.ensures.there.low)))

pub invariant_of-self : goal.invariant_of-self
invariant_of-self g c =
    (g.met.R.Route.by_routing c.self.inside.route c.self.inside.host c.reset_except_routing_nth.new.self (taken g c).routes c.self.invariant.0, (taken g c).sound)

pub returns-clause-after : goal.returns-clause-after
returns-clause-after g c = (taken g c).shown
