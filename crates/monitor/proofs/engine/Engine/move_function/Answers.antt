use Rattle.std.{proofs.Common.{◌∙◌, ◌&&◌, ◌||◌, ℕ, List, Option, not, ap, subst, arith, sym}, specs.{Prelude.is_some, Str.bytes_eq}}
use Rattle.model_guests.specs.{Lines.host_move, Calls.asks}
use Rattle.model_handoff.specs.Actions.{calls}
use Rattle.monitor.{specs.{declared.guest.Guest.Guest, Configs.HoldsAt, ByIndex.name_nth, Counts.counted_both, Moves.{HasSlot, move_nth}}, proofs.{Calls.{back_in, guest_in, inside_guests}, Machines.{both_grew, counts_lent, refused_all}, MoveSteps.{fault_is, has_moved, holds_moved, move_done, move_left, move_refused, nothing_moved}, Exchanges.over_lent, Savable.after_action_sound}}
use Rattle.monitor.proofs.engine.Engine.move_function.Goals as goal

pub index-requires : goal.index-requires
index-requires g c = omega (arith, inside_guests c.self.invariant.1 c.self.view_is c.args.from c.requires.from)

pub index-requires-2 : goal.index-requires-2
index-requires-2 g c = omega (arith, inside_guests c.self.invariant.1 c.self.view_is c.args.to c.requires.to)

pub returns-in-Some-clause-reply : goal.returns-in-Some-clause-reply
returns-in-Some-clause-reply g c =
    let from = guest_in c.self.invariant.1 c.self.view_is c.args.from c.requires.from c.index.ensures in
    let to = guest_in c.self.invariant.1 c.self.view_is c.args.to c.requires.to c.index-2.ensures in
    move_refused from to c.args.slot c.args.target c.deref.ensures.value c.deref-2.ensures.value c.in-Some.ensures

pub returns-in-Some-clause-after : goal.returns-in-Some-clause-after
returns-in-Some-clause-after g c =
    let from = guest_in c.self.invariant.1 c.self.view_is c.args.from c.requires.from c.index.ensures in
    let to = guest_in c.self.invariant.1 c.self.view_is c.args.to c.requires.to c.index-2.ensures in
    let now = c.args.self.now in
    refused_all c.args.self.now (calls (asks (host_move (move_nth now.world c.args.from c.args.slot c.args.to c.args.target))))
    (nothing_moved from to c.args.slot c.args.target c.deref.ensures.value c.deref-2.ensures.value c.in-Some.ensures)
    (λ x. ap (λ (o : Option ℕ). not (is_some o) && (bytes_eq (name_nth now.world c.args.from) x || bytes_eq (name_nth now.world c.args.to) x))
    (sym (c.in-Some.ensures ∙ fault_is from to c.args.slot c.args.target c.deref.ensures.value c.deref-2.ensures.value)))

pub move_and_reset-requires-clause-holds : goal.move_and_reset-requires-clause-holds
move_and_reset-requires-clause-holds g c =
    let from = guest_in c.self.invariant.1 c.self.view_is c.args.from c.requires.from c.index.ensures in
    let to = guest_in c.self.invariant.1 c.self.view_is c.args.to c.requires.to c.index-2.ensures in
    subst (λ (gs : List Guest). HoldsAt gs c.args.from c.args.slot) (sym c.deref_mut.ensures.value) (holds_moved from to c.args.slot c.args.target c.deref.ensures.value c.deref-2.ensures.value c.in_default.ensures)

pub move_and_reset-requires-clause-has : goal.move_and_reset-requires-clause-has
move_and_reset-requires-clause-has g c =
    let from = guest_in c.self.invariant.1 c.self.view_is c.args.from c.requires.from c.index.ensures in
    let to = guest_in c.self.invariant.1 c.self.view_is c.args.to c.requires.to c.index-2.ensures in
    subst (λ (gs : List Guest). HasSlot gs c.args.to c.args.target) (sym c.deref_mut.ensures.value) (has_moved from to c.args.slot c.args.target c.deref.ensures.value c.deref-2.ensures.value c.in_default.ensures)

pub returns-clause-reply : goal.returns-clause-reply
returns-clause-reply g c =
    let from = guest_in c.self.invariant.1 c.self.view_is c.args.from c.requires.from c.index.ensures in
    let to = guest_in c.self.invariant.1 c.self.view_is c.args.to c.requires.to c.index-2.ensures in
    move_done from to c.args.slot c.args.target c.deref.ensures.value c.deref-2.ensures.value c.in_default.ensures

pub invariant_of-self : goal.invariant_of-self
invariant_of-self g c =
    let e = c.self.inside in
    let from = guest_in c.self.invariant.1 c.self.view_is c.args.from c.requires.from c.index.ensures in
    let to = guest_in c.self.invariant.1 c.self.view_is c.args.to c.requires.to c.index-2.ensures in
    let left = back_in e.guests.items e.guests.len (c.move_and_reset.auto.guests ∙ c.deref_mut.ensures.len)
    (move_left from to c.args.slot c.args.target c.deref.ensures.value c.deref-2.ensures.value c.in_default.ensures (over_lent c.deref_mut.ensures.value c.move_and_reset.ensures.over)) in
    (g.met.R.Route.by_routing e.route e.host c.move_and_reset.new.host left.routes c.self.invariant.0, after_action_sound c.self.invariant.1 c.self.view_is (calls (asks (host_move (move_nth c.args.self.now.world c.args.from c.args.slot c.args.to c.args.target)))) left)

pub returns-clause-after : goal.returns-clause-after
returns-clause-after g c =
    let e = c.self.inside in
    let now = c.args.self.now in
    let from = guest_in c.self.invariant.1 c.self.view_is c.args.from c.requires.from c.index.ensures in
    let to = guest_in c.self.invariant.1 c.self.view_is c.args.to c.requires.to c.index-2.ensures in
    let count = c.move_and_reset.auto.guests ∙ c.deref_mut.ensures.len in
    both_grew c.self.invariant.1 c.self.view_is (calls (asks (host_move (move_nth now.world c.args.from c.args.slot c.args.to c.args.target))))
    c.args.from c.args.to c.requires.from c.requires.to
    (back_in e.guests.items e.guests.len count
    (move_left from to c.args.slot c.args.target c.deref.ensures.value c.deref-2.ensures.value c.in_default.ensures (over_lent c.deref_mut.ensures.value c.move_and_reset.ensures.over)))
    (counts_lent _ (counted_both c.args.from c.args.to) c.deref_mut.ensures.value c.move_and_reset.ensures.counts e.guests.len count)
    (λ x. ap (λ (o : Option ℕ). not (is_some o) && (bytes_eq (name_nth now.world c.args.from) x || bytes_eq (name_nth now.world c.args.to) x))
    (sym (c.in_default.ensures ∙ fault_is from to c.args.slot c.args.target c.deref.ensures.value c.deref-2.ensures.value)))
