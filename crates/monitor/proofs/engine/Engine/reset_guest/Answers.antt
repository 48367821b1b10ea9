use Rattle.std.proofs.Common.{◌≡◌, ◌∙◌, List, true, refl, subst, sym, arith}
use Rattle.model_guests.specs.WorldNow.{WorldNow}
use Rattle.model_images.specs.{Requests.restarts, RequestLaws.after_request_on_machine}
use Rattle.monitor.{specs.{declared.guest.Guest.Guest, ByIndex.name_nth, Counts.counted_nth, Keeping.IsKept, Moves.HasSlot, Views.texts}, proofs.{Calls.{guest_at, kept_in, leaves}, Exchanges.has_nth, RestartSteps.{restarted, restarted_is}, Savable.after_restart_sound}}
use Rattle.monitor.proofs.Ended.{Ends, ends}
use Rattle.monitor.proofs.engine.Engine.reset_guest.Goals as goal

pub reset_guest_and_count-requires : goal.reset_guest_and_count-requires
reset_guest_and_count-requires g c =
    let at = (guest_at c.self.invariant.1 c.self.view_is c.args.guest c.requires).1 in
    subst (λ (gs : List Guest). HasSlot gs c.args.guest 31) (sym c.deref_mut.ensures.value) (has_nth at (omega arith))

at_reset : (g : _) (c : goal.After-self-2-1 g)
    → Ends c.self.inside c.reset_guest_and_count.new.host c.reset_guest_and_count.new.guests
    (λ m. m ≡ after_request_on_machine c.args.self.now (restarts (name_nth c.args.self.now.world c.args.guest)))
at_reset g c =
    let e = c.self.inside in
    let now = c.args.self.now in
    let kept = kept_in c.self.invariant.1 c.self.view_is in
    let at = (guest_at c.self.invariant.1 c.self.view_is c.args.guest c.requires).1 in
    let lent = subst (λ (gs : List Guest). IsKept now.world e.host (texts e.names) gs) (sym c.deref_mut.ensures.value) kept in
    let after = subst (λ (v : WorldNow). IsKept v c.reset_guest_and_count.new.host (texts e.names) c.reset_guest_and_count.new.guests) (restarted_is at) (c.reset_guest_and_count.ensures.kept now.world (texts e.names) lent) in
    ends e c.deref_mut.ensures.value (c.reset_guest_and_count.auto.guests ∙ c.deref_mut.ensures.len) (leaves kept after refl)
    (after_restart_sound c.self.invariant.1 c.self.view_is c.args.guest c.requires) (counted_nth c.args.guest true) c.reset_guest_and_count.ensures.counts
    (restarted c.self.invariant.1 c.self.view_is c.args.guest c.requires)

pub invariant_of-self : goal.invariant_of-self
invariant_of-self g c =
    (g.met.R.Route.by_routing c.self.inside.route c.self.inside.host c.reset_guest_and_count.new.host (at_reset g c).routes c.self.invariant.0, (at_reset g c).sound)

pub returns : goal.returns
returns g c = (at_reset g c).shown
