use Rattle.std.proofs.Common.{rules, subst, sym}
use Rattle.monitor.{proofs.{Machines.begins_counted, FirstWorlds.{routing_on, sound_at_first, shown_at_first, savable_over}}, specs.{Beginnings.world_on, Views.texts}}
use Rattle.model_handoff.specs.Handoffs.{taken_over}
use Rattle.model_images.specs.SavedLaws.{CanBeSaved}
use Rattle.monitor.proofs.engine.Engine.hand_over_with_route.Goals as goal

pub from_parts-requires-clause-fits : goal.from_parts-requires-clause-fits
from_parts-requires-clause-fits g c = search (rules, routing_on)

pub from_parts-requires-clause-sound : goal.from_parts-requires-clause-sound
from_parts-requires-clause-sound g c =
    sound_at_first c.args.host c.args.guests.now c.requires.handoff c.requires.lawful c.requires.given c.reset_assigned_for_handover.new.host c.reset_assigned_for_handover.ensures
    (texts c.guest_names.result) c.guest_names.ensures c.in-Ok.kept.items c.in-Ok.ensures.kept
    (savable_over c.args.host c.args.guests.now c.requires.handoff c.requires.lawful c.requires.given c.prove_board_can_be_saved.ensures)

pub returns-clause-made : goal.returns-clause-made
returns-clause-made g c =
    let w = world_on c.args.host c.args.guests.now in
    let shown = shown_at_first c.args.host c.args.guests.now c.requires.handoff c.requires.lawful c.requires.given c.reset_assigned_for_handover.new.host c.reset_assigned_for_handover.ensures
    (texts c.guest_names.result) c.guest_names.ensures c.in-Ok.kept.items c.in-Ok.ensures.kept in
    begins_counted w (taken_over w c.args.host.state) c.reset_assigned_for_handover.new.host (texts c.guest_names.result) c.in-Ok.kept.items c.from_parts.ensures shown c.in-Ok.ensures.counts

pub returns-clause-savable : goal.returns-clause-savable
returns-clause-savable g c =
    let can = savable_over c.args.host c.args.guests.now c.requires.handoff c.requires.lawful c.requires.given c.prove_board_can_be_saved.ensures in
    subst CanBeSaved (sym (returns-clause-made g c).world) can
