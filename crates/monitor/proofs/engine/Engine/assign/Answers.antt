use Rattle.std.proofs.Common.{◌≡◌, ◌<◌, ◌∙◌, List, length, true, sym, subst}
use Rattle.monitor.{specs.{declared.guest.Guest.Guest, ByIndex.name_nth, Counts.counted_nth, Moves.HasSlot, Seatings.gift_nth}, proofs.{Calls.{guest_at, inside_guests, kept_in}, Given.{board_kept, give_left, has_room, makes_gift, nothing_given}, Machines.{grew, is_counted, not_counted, refused_all}, Exchanges.exchange_lent, Savable.after_action_sound}}
use Rattle.model_handoff.specs.{Actions.gives, Changes.after_on_machine}
use Rattle.monitor.proofs.Ended.{Ends, ends}
use Rattle.monitor.proofs.engine.Engine.assign.Goals as goal

pub try_new_assigned_function-requires-clause-board : goal.try_new_assigned_function-requires-clause-board
try_new_assigned_function-requires-clause-board g c = board_kept (kept_in c.self.invariant.1 c.self.view_is)

pub try_new_assigned_function-requires-clause-inside : goal.try_new_assigned_function-requires-clause-inside
try_new_assigned_function-requires-clause-inside g c =
    subst (λ (gs : List Guest). c.args.guest < length gs) (sym c.deref.ensures.value) (inside_guests c.self.invariant.1 c.self.view_is c.args.guest c.requires)

pub replace_guest_slot-empty-requires : goal.replace_guest_slot-empty-requires
replace_guest_slot-empty-requires g c =
    let kept = kept_in c.self.invariant.1 c.self.view_is in
    let at = (guest_at c.self.invariant.1 c.self.view_is c.args.guest c.requires).1 in
    subst (λ (gs : List Guest). HasSlot gs c.args.guest c.args.slot) (sym c.deref_mut.ensures.value) (has_room at (makes_gift kept c.deref.ensures.value c.in-Ok.ensures))

given : (g : _) (c : goal.After-self-2-1 g)
    → Ends c.self.inside c.reset_except_routing_nth.new.self c.replace_guest_slot-empty.new.guests
    (λ m. m ≡ after_on_machine c.args.self.now (gives (gift_nth c.args.self.now.world c.args.path.now c.args.guest c.args.slot)))
given g c =
    let gift = gives (gift_nth c.args.self.now.world c.args.path.now c.args.guest c.args.slot) in
    let at = (guest_at c.self.invariant.1 c.self.view_is c.args.guest c.requires).1 in
    let makes = makes_gift (kept_in c.self.invariant.1 c.self.view_is) c.deref.ensures.value c.in-Ok.ensures in
    ends c.self.inside c.deref_mut.ensures.value (c.replace_guest_slot-empty.auto.guests ∙ c.deref_mut.ensures.len)
    (give_left at makes (exchange_lent c.deref_mut.ensures.value c.replace_guest_slot-empty.ensures.exchanged) c.reset_except_routing_nth.ensures)
    (after_action_sound c.self.invariant.1 c.self.view_is gift) (counted_nth c.args.guest true) c.replace_guest_slot-empty.ensures.counts
    (λ left counts. grew c.self.invariant.1 c.self.view_is gift c.args.guest c.requires left counts
    (is_counted (name_nth c.args.self.now.world c.args.guest) (sym makes.fault)))

pub invariant_of-self : goal.invariant_of-self
invariant_of-self g c =
    (g.met.R.Route.by_routing c.self.inside.route c.self.inside.host c.reset_except_routing_nth.new.self (given g c).routes c.self.invariant.0, (given g c).sound)

pub returns-in-Err-clause-after : goal.returns-in-Err-clause-after
returns-in-Err-clause-after g c =
    let now = c.args.self.now in
    let gift = gift_nth now.world c.args.path.now c.args.guest c.args.slot in
    let fault = (makes_gift (kept_in c.self.invariant.1 c.self.view_is) c.deref.ensures.value c.in-Err.ensures).fault in
    refused_all c.args.self.now (gives gift) (nothing_given now.world gift fault) (not_counted (name_nth now.world c.args.guest) (sym fault))

pub returns-clause-after : goal.returns-clause-after
returns-clause-after g c = (given g c).shown
