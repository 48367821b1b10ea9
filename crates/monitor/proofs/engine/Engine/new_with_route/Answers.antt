use Rattle.std.proofs.Common.{◌≡◌, ◌∙◌, List, ap, sym, subst, rules}
use Rattle.model_set_up.specs.{FunctionTable.TableRow, SetUpWrites.Plan}
use Rattle.model_guests.specs.WorldNow.{world_over}
use Rattle.model_handoff.specs.{Handoffs.taken_over, Regions.CanBeGiven}
use Rattle.host_bridge.specs.HostState.{HostState}
use Rattle.monitor.{specs.Beginnings.world_on, proofs.FirstWorlds.{ready_handoff, ready_given, ready_world}}
use Rattle.monitor.proofs.engine.Engine.new_with_route.Goals as goal

pub hand_over_with_route-requires-clause-fits : goal.hand_over_with_route-requires-clause-fits
hand_over_with_route-requires-clause-fits g c = search rules

pub hand_over_with_route-requires-clause-handoff : goal.hand_over_with_route-requires-clause-handoff
hand_over_with_route-requires-clause-handoff g c = search (rules, ready_handoff)

pub hand_over_with_route-requires-clause-lawful : goal.hand_over_with_route-requires-clause-lawful
hand_over_with_route-requires-clause-lawful g c = search rules

pub hand_over_with_route-requires-clause-given : goal.hand_over_with_route-requires-clause-given
hand_over_with_route-requires-clause-given g c =
    let host : c.into_parts-host.result.0 ≡ c.args.ready.host = ap (λ (x : HostState × List TableRow × Plan). x.0) c.into_parts-host.ensures.parts in
    subst (λ (h : HostState). CanBeGiven (world_on h c.args.guests.now) h.state) (sym host) (ready_given c.args.ready c.into_parts-host.ensures.ready c.args.guests.now c.requires.lawful)

pub returns-in-Ok-clause-made : goal.returns-in-Ok-clause-made
returns-in-Ok-clause-made g c =
    let host : c.into_parts-host.result.0 ≡ c.args.ready.host = ap (λ (x : HostState × List TableRow × Plan). x.0) c.into_parts-host.ensures.parts in
    let made = c.in-Ok.ensures.made in
    record {
      world = made.world ∙ ap (λ (h : HostState). world_over (world_on h c.args.guests.now) (taken_over (world_on h c.args.guests.now) h.state)) host
          ∙ ready_world c.args.ready c.into_parts-host.ensures.ready c.args.guests.now c.requires.lawful;
      counts = made.counts;
    }
