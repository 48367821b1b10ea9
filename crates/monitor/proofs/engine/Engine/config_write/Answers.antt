use Rattle.std.{proofs.Common.{◌∙◌, ℕ, List, ap, sym, subst, arith}, specs.Prelude.IsSome}
use Rattle.model_registers.specs.{ByteEnables.{enables_of, to_lanes}, Registers.config}
use Rattle.model_guests.specs.{Accesses.{configuration, writes}, Lone.at_target}
use Rattle.model_handoff.specs.StayLaws.{any_tells}
use Rattle.bridge_forward.specs.Lending.{endpoint_nth}
use Rattle.host_bridge.specs.Landings.{IsReached}
use Rattle.monitor.{specs.{declared.guest.Guest.Guest, Configs.HoldsAt, Counts.counted_nth}, proofs.{ConfigSteps.{config_changes, config_drops, config_quiet, config_written, written_lent}, Machines.{accessed, counts_lent, untouched}, Calls.{back_in, guest_in, inside_guests}, Steps.{empty_lent, slot_lent}, Exchanges.holds_nth, Reached.{endpoint_held, reached_held}, Savable.after_access_sound}}
use Rattle.monitor.proofs.engine.Engine.config_write.Goals as goal

pub index-requires : goal.index-requires
index-requires g c = omega (arith, inside_guests c.self.invariant.1 c.self.view_is c.args.guest c.requires.there)

pub returns-in_default : goal.returns-in_default
returns-in_default g c =
    let at = guest_in c.self.invariant.1 c.self.view_is c.args.guest c.requires.there c.index.ensures in
    let empty = empty_lent at c.args.slot c.deref.ensures.value c.in_default.ensures.empty in
    untouched c.args.self.now c.args.guest _ _ (config_drops at c.args.slot empty c.args.off c.args.width c.args.value) (config_quiet at c.args.slot empty c.args.off c.args.width c.args.value)

pub write_guest_copies_and_count-index-requires-clause-holds : goal.write_guest_copies_and_count-index-requires-clause-holds
write_guest_copies_and_count-index-requires-clause-holds g c =
    let at = guest_in c.self.invariant.1 c.self.view_is c.args.guest c.requires.there c.index.ensures in
    subst (λ (gs : List Guest). HoldsAt gs c.args.guest c.args.slot) (sym c.deref_mut.ensures.value) (holds_nth at (slot_lent at c.deref.ensures.value c.in-Some.ensures.there))

pub config_write_nth-requires-clause-there : goal.config_write_nth-requires-clause-there
config_write_nth-requires-clause-there g c =
    let at = guest_in c.self.invariant.1 c.self.view_is c.args.guest c.requires.there c.index.ensures in
    let slot = slot_lent at c.deref.ensures.value c.in-Some.ensures.there in
    let written = written_lent c.deref_mut.ensures.value (holds_nth at slot) c.write_guest_copies_and_count-index.ensures.written in
    subst (λ (k : ℕ). IsSome (endpoint_nth c.self.inside.host.state.functions k)) (sym written.slots.index) (endpoint_held at slot)

pub config_write_nth-requires-clause-reached : goal.config_write_nth-requires-clause-reached
config_write_nth-requires-clause-reached g c =
    let at = guest_in c.self.invariant.1 c.self.view_is c.args.guest c.requires.there c.index.ensures in
    let slot = slot_lent at c.deref.ensures.value c.in-Some.ensures.there in
    let written = written_lent c.deref_mut.ensures.value (holds_nth at slot) c.write_guest_copies_and_count-index.ensures.written in
    subst (λ (k : ℕ). IsReached c.self.inside.host.state.functions k) (sym written.slots.index) (reached_held at slot)

pub invariant_of-self : goal.invariant_of-self
invariant_of-self g c =
    let e = c.self.inside in
    let at = guest_in c.self.invariant.1 c.self.view_is c.args.guest c.requires.there c.index.ensures in
    let slot = slot_lent at c.deref.ensures.value c.in-Some.ensures.there in
    let written = written_lent c.deref_mut.ensures.value (holds_nth at slot) c.write_guest_copies_and_count-index.ensures.written in
    let left = back_in e.guests.items e.guests.len (c.write_guest_copies_and_count-index.auto.guests ∙ c.deref_mut.ensures.len)
    (config_written at slot c.args.off c.args.width c.args.value c.requires.width c.requires.aligned
    (c.enables_of-enables.ensures ∙ ap (λ x. enables_of x c.args.width) c.from-from.ensures) (c.to_lanes-moved.ensures ∙ ap (λ x. to_lanes x c.args.value) c.from-from.ensures)
    written c.config_write_nth.ensures) in
    (g.met.R.Route.by_routing e.route e.host c.config_write_nth.new.self left.routes c.self.invariant.0, after_access_sound c.self.invariant.1 c.self.view_is c.args.guest c.requires.there (writes c.args.value) c.args.width (at_target (configuration c.args.slot c.args.off)) left)

pub returns : goal.returns
returns g c =
    let e = c.self.inside in
    let at = guest_in c.self.invariant.1 c.self.view_is c.args.guest c.requires.there c.index.ensures in
    let slot = slot_lent at c.deref.ensures.value c.in-Some.ensures.there in
    let written = written_lent c.deref_mut.ensures.value (holds_nth at slot) c.write_guest_copies_and_count-index.ensures.written in
    let count = c.write_guest_copies_and_count-index.auto.guests ∙ c.deref_mut.ensures.len in
    accessed c.self.invariant.1 c.self.view_is c.args.guest
    (back_in e.guests.items e.guests.len count
    (config_written at slot c.args.off c.args.width c.args.value c.requires.width c.requires.aligned
    (c.enables_of-enables.ensures ∙ ap (λ x. enables_of x c.args.width) c.from-from.ensures) (c.to_lanes-moved.ensures ∙ ap (λ x. to_lanes x c.args.value) c.from-from.ensures)
    written c.config_write_nth.ensures))
    (counts_lent _ (counted_nth c.args.guest c.touches_command_or_bars-tells.result) c.deref_mut.ensures.value c.write_guest_copies_and_count-index.ensures.counts e.guests.len count)
    (c.touches_command_or_bars-tells.ensures ∙ ap (λ x. any_tells c.args.width (config x)) c.from-from.ensures ∙ sym (config_changes at slot c.args.off c.args.width c.args.value))
